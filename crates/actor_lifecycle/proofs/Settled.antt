-- The parts of what a moment brings, put together.
use Rattle.std.proofs.Common.{◌≡◌, ℕ, ◌+◌, List, [], ◌∷◌, length, map, None, arith, refl, sym, ap, subst, ◌∙◌}
use Rattle.std.proofs.lemmas.List.{nil_from_length}
use Rattle.std.specs.List.Sorted.{IsStrictlyIncreasing}
use Rattle.sim_base.specs.declared.ids.ActorId.{ActorId}
use Rattle.sim_base.specs.declared.moment.Moment.{Moment}
use Rattle.actor_trait.specs.Meaning.{Meaning}
use Rattle.actor_trait.specs.declared.letter.Letter.{Letter}
use Rattle.sim_model.specs.Births.{birth_letter, births_of_moment, next_after, without_births}
use Rattle.sim_model.specs.Moment.{enter, first_fault, reports, retired}
use Rattle.sim_model.specs.Whole.{IsWholeAt}
use Rattle.sim_model.specs.declared.births.Newborn.{Newborn}
use Rattle.sim_model.specs.declared.report.Report.{Report}
use Rattle.sim_model.specs.declared.settled.Settled.TheVariants as becomes
use Rattle.sim_model.specs.declared.stage.Stage.{Stage}
use Rattle.sim_model.specs.declared.stage.Stage.TheVariants.{Going, Over}
use Rattle.sim_model.specs.declared.world.WorldState.{WorldState}
use Rattle.sim_model.proofs.Ascending.{to_increasing}
use Rattle.sim_model.proofs.Numbers.{births-length}
use Rattle.actor_lifecycle.specs.Settling.{CanSettle, settled}

-- where nobody shows a fault
pub settled_calm : {A : Type 0} (m : Meaning A) (max next : ℕ) (at : Moment) (rs kept : List (Report A)) (born : List (Newborn A))
    (letters : List Letter) (ids : List ActorId)
    → first_fault m max next at rs ≡ None → kept ≡ map without_births rs → born ≡ births_of_moment m next rs
    → letters ≡ map birth_letter born → ids ≡ retired rs
    → becomes.Settled kept born letters ids ≡ settled m max next at rs
settled_calm m max next at rs kept born letters ids none emptied borne told gone = rw (none, told, borne, emptied, gone) refl

-- where no one is born
pub none_born : {A : Type 0} (m : Meaning A) (rs : List (Report A)) (next : ℕ) → next_after next rs ≡ next → births_of_moment m next rs ≡ []
none_born m rs next h = nil_from_length (births_of_moment m next rs) (omega (arith, h, births-length m rs next))

pub kept_whole : {A : Type 0} (m : Meaning A) (rs : List (Report A)) (next : ℕ) → next_after next rs ≡ next → rs ≡ map without_births rs
kept_whole m [] next h = refl
kept_whole m (r ∷ rs) next h =
    let counted = births-length m rs (next + length r.outcome.births) in
    let empty : r.outcome.births ≡ [] = nil_from_length r.outcome.births (omega (arith, h, counted)) in
    let rest : rs ≡ map without_births rs = kept_whole m rs (next + length r.outcome.births) (omega (arith, h, counted)) in
    ap (λ births. record r { outcome = record r.outcome { births = births } } ∷ rs) empty ∙ ap (λ l. without_births r ∷ l) rest

numbers : {A : Type 0} (rs : List (Report A)) → map (λ a. a.0) (map (λ r. r.id) rs) ≡ map (λ r. r.id.0) rs
numbers [] = refl
numbers (r ∷ rs) = ap (λ l. r.id.0 ∷ l) (numbers rs)

-- a whole world's reports can be settled
pub can_settle : {A : Type 0} (m : Meaning A) (p : Stage A) → IsWholeAt m p → CanSettle m p
can_settle m (Over e) h = tt
can_settle {A} m (Going u) h =
    let entered : WorldState A = enter u.world u.next in
    let told : map (λ a. a.0) (map (λ r. r.id) (reports m entered u.next)) ≡ map (λ a. a.0) entered.scheduled = ap (λ ids. map (λ a. a.0) ids) h.2 in (
      subst IsStrictlyIncreasing (sym told ∙ numbers (reports m entered u.next))
          (to_increasing entered.scheduled h.1.scheduled.ascend),
      omega (arith, h.1.parameters.count),
    )
