-- The letters to one.
use Rattle.std.proofs.Common.{◌≡◌, Bool, true, false, cond, Option, List, [], ◌∷◌, refl, ap, arith, subst}
use Rattle.std.proofs.lemmas.Bool.Decides.{nat_tests}
use Rattle.std.proofs.lemmas.List.Elements.{filter_passes}
use Rattle.std.specs.List.{All, filter}
use Rattle.sim_base.specs.declared.ids.ActorId.{ActorId}
use Rattle.actor_trait.specs.InboxOrder.{is_to}
use Rattle.actor_trait.specs.declared.letter.Letter.{Letter}
use Rattle.inbox_order.specs.Inboxes.{inbox_of}
use Rattle.sim_model.specs.Moment.{is_alive}
use Rattle.sim_model.proofs.Sameness.{id_same}

pub its_own : (to : ActorId) (ls : List Letter) → All (λ l. is_to to l ≡ true) (inbox_of ls to)
its_own to ls = filter_passes (is_to to) ls

-- the letters to one, of those that go to the living
pub living_to : {A : Type 0} (states : List (Option A)) (to : ActorId) (ls : List Letter)
    → filter (is_to to) (filter (λ l. is_alive states l.to) ls) ≡ cond (is_alive states to) (filter (is_to to) ls) []
living_to states to [] = told (is_alive states to)
  where
    told : (b : Bool) → [] ≡ cond {A = List Letter} b [] []
    told true = refl
    told false = refl
living_to {A} states to (l ∷ ls) = told (is_to to l) (is_alive states l.to) (is_alive states to) refl refl refl (living_to states to ls)
  where
    told : (b c d : Bool) → is_to to l ≡ b → is_alive states l.to ≡ c → is_alive states to ≡ d
        → filter (is_to to) (filter (λ k. is_alive states k.to) ls) ≡ cond d (filter (is_to to) ls) []
        → filter (is_to to) (cond c (l ∷ filter (λ k. is_alive states k.to) ls) (filter (λ k. is_alive states k.to) ls)) ≡ cond d
        (cond b (l ∷ filter (is_to to) ls) (filter (is_to to) ls)) []
    told true true true e f g h = rw e (ap (λ (k : List Letter). l ∷ k) h)
    told true true false e f g h = absurd (differ e f g)
      where
        differ : is_to to l ≡ true → is_alive states l.to ≡ true → is_alive states to ≡ false → ⊥
        differ e f g = let same : l.to ≡ to = id_same l.to to (grind (arith, nat_tests, e)) in let yes : is_alive states to ≡ true =
            subst (λ (k : ActorId). is_alive states k ≡ true) same f in cc
    told true false true e f g h = absurd (differ e f g)
      where
        differ : is_to to l ≡ true → is_alive states l.to ≡ false → is_alive states to ≡ true → ⊥
        differ e f g = let same : l.to ≡ to = id_same l.to to (grind (arith, nat_tests, e)) in let no : is_alive states to ≡ false =
            subst (λ (k : ActorId). is_alive states k ≡ false) same f in cc
    told true false false e f g h = h
    told false true d e f g h = rw e h
    told false false d e f g h = h
