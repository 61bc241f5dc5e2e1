-- What the methods of an actor mean, and the laws of that.
use Rattle.std.specs.Prelude.{◌≡◌, ℕ, true, List}
use Rattle.std.specs.List.{list_all}
use Rattle.sim_base.specs.Names.{is_word}
use Rattle.actor_trait.specs.Seen.{Seen}
use Rattle.actor_trait.specs.declared.context.Context.{Context}
use Rattle.actor_trait.specs.declared.outcome.Outcome.{Outcome}

-- what comes of an event, the name of the kind, and the names of its probes
pub record Meaning (A : Type 0) : Type 0 where
  pub acts : A → Context → Seen → Outcome A
  pub kind : A → List ℕ
  pub probes : A → List (List ℕ)

-- kinds and probes have proper names, and an actor keeps its kind and its probes
pub record IsLawful {A : Type 0} (m : Meaning A) : Type 0 where
  pub kind_is_word : (s : A) → is_word (m.kind s) ≡ true
  pub probes_are_words : (s : A) → list_all is_word (m.probes s) ≡ true
  pub keeps_kind : (s : A) (c : Context) (e : Seen) → m.kind (m.acts s c e).state ≡ m.kind s
  pub keeps_probes : (s : A) (c : Context) (e : Seen) → m.probes (m.acts s c e).state ≡ m.probes s
