-- The meaning of an actor of any kind is lawful, since each kind's is.
use Rattle.std.specs.Prelude.{◌≡◌, true, refl}
use Rattle.std.specs.List.{list_all}
use Rattle.sim_base.specs.Names.{is_word}
use Rattle.actor_trait.specs.Meaning.{IsLawful}
use Rattle.actor_trait.specs.Seen.{Seen}
use Rattle.actor_trait.specs.declared.context.Context.{Context}
use Rattle.scenario.specs.AnyActors.{any_acts, any_kind, any_meaning, any_probes}
use Rattle.scenario.specs.declared.any_actor.AnyActor.{AnyActor}
use Rattle.scenario.specs.declared.any_actor.AnyActor.TheVariants.{Clock, Ball, Fuse, Machine, Customer, RandomCustomer, Refill, Depot, Road, Origin, Vehicle}

pub any_kind_is_word : (s : AnyActor) → is_word (any_kind s) ≡ true
any_kind_is_word (Clock s) = refl
any_kind_is_word (Ball s) = refl
any_kind_is_word (Fuse s) = refl
any_kind_is_word (Machine s) = refl
any_kind_is_word (Customer s) = refl
any_kind_is_word (RandomCustomer s) = refl
any_kind_is_word (Refill s) = refl
any_kind_is_word (Depot s) = refl
any_kind_is_word (Road s) = refl
any_kind_is_word (Origin s) = refl
any_kind_is_word (Vehicle s) = refl

pub any_probes_are_words : (s : AnyActor) → list_all is_word (any_probes s) ≡ true
any_probes_are_words (Clock s) = refl
any_probes_are_words (Ball s) = refl
any_probes_are_words (Fuse s) = refl
any_probes_are_words (Machine s) = refl
any_probes_are_words (Customer s) = refl
any_probes_are_words (RandomCustomer s) = refl
any_probes_are_words (Refill s) = refl
any_probes_are_words (Depot s) = refl
any_probes_are_words (Road s) = refl
any_probes_are_words (Origin s) = refl
any_probes_are_words (Vehicle s) = refl

pub any_keeps_kind : (s : AnyActor) (c : Context) (e : Seen) → any_kind (any_acts s c e).state ≡ any_kind s
any_keeps_kind (Clock s) c e = refl
any_keeps_kind (Ball s) c e = refl
any_keeps_kind (Fuse s) c e = refl
any_keeps_kind (Machine s) c e = refl
any_keeps_kind (Customer s) c e = refl
any_keeps_kind (RandomCustomer s) c e = refl
any_keeps_kind (Refill s) c e = refl
any_keeps_kind (Depot s) c e = refl
any_keeps_kind (Road s) c e = refl
any_keeps_kind (Origin s) c e = refl
any_keeps_kind (Vehicle s) c e = refl

pub any_keeps_probes : (s : AnyActor) (c : Context) (e : Seen) → any_probes (any_acts s c e).state ≡ any_probes s
any_keeps_probes (Clock s) c e = refl
any_keeps_probes (Ball s) c e = refl
any_keeps_probes (Fuse s) c e = refl
any_keeps_probes (Machine s) c e = refl
any_keeps_probes (Customer s) c e = refl
any_keeps_probes (RandomCustomer s) c e = refl
any_keeps_probes (Refill s) c e = refl
any_keeps_probes (Depot s) c e = refl
any_keeps_probes (Road s) c e = refl
any_keeps_probes (Origin s) c e = refl
any_keeps_probes (Vehicle s) c e = refl

pub any_lawful : IsLawful any_meaning
any_lawful = record {
  kind_is_word = any_kind_is_word;
  probes_are_words = any_probes_are_words;
  keeps_kind = any_keeps_kind;
  keeps_probes = any_keeps_probes;
}
