-- The room that is left for numbers, report by report.
use Rattle.std.proofs.Common.{◌≡◌, ◌∙◌, ℕ, ◌+◌, ◌-◌, ◌<◌, ◌≤◌, nat_lt, List, ◌∷◌, length, drop, get_or, None, arith, refl, ap}
use Rattle.std.proofs.lemmas.Bool.Decides.{nat_tests}
use Rattle.sim_base.specs.declared.moment.Moment.{Moment}
use Rattle.actor_trait.specs.Faults.{fault_among}
use Rattle.actor_trait.specs.Meaning.{Meaning}
use Rattle.sim_model.specs.Births.{bears_past, next_after}
use Rattle.sim_model.specs.Moment.{first_fault}
use Rattle.sim_model.specs.declared.report.Report.{Report}
use Rattle.sim_model.proofs.Calm.{calm}
use Rattle.sim_model.proofs.Numbers.{past_room}
use Rattle.sim_model.proofs.Lists.{drop_item}

-- whether a report bears past the last number is told by the room that is left
pub bears_past-room : {A : Type 0} (max room : ℕ) (r : Report A) → room ≤ max + 1
    → bears_past max (max + 1 - room) (length r.outcome.births) ≡ nat_lt room (length r.outcome.births)
bears_past-room max room r le =
    past_room max (max + 1 - room) r (omega arith) ∙ ap (λ n. nat_lt n (length r.outcome.births)) (omega arith)

-- one that shows no fault has room for its births, and leaves the rest of the room to the others
pub record Passes {A : Type 0} (m : Meaning A) (max room : ℕ) (at : Moment) (rs : List (Report A)) (i : ℕ) (r : Report A) : Type 0 where
  pub fits : length r.outcome.births ≤ room
  pub fault : first_fault m max (max + 1 - (room - length r.outcome.births)) at (drop (i + 1) rs) ≡ first_fault m max (max + 1 - room) at (drop i rs)
  pub next : next_after (max + 1 - (room - length r.outcome.births)) (drop (i + 1) rs) ≡ next_after (max + 1 - room) (drop i rs)

pub passes : {A : Type 0} (m : Meaning A) (max room : ℕ) (at : Moment) (rs : List (Report A)) (i : ℕ) (r : Report A)
    → i < length rs → r ≡ get_or rs i r → room ≤ max + 1 → fault_among m r.outcome at (nat_lt room (length r.outcome.births)) ≡ None
    → Passes m max room at rs i r
passes m max room at rs i r lt is le none =
    let n = length r.outcome.births in
    let split : drop i rs ≡ r ∷ drop (i + 1) rs = drop_item rs i r lt is in
    let fits : length r.outcome.births ≤ room = grind (arith, nat_tests, (calm m at (nat_lt room n) r none).room) in
    let next : max + 1 - room + length r.outcome.births ≡ max + 1 - (room - length r.outcome.births) = omega (arith, fits, le) in
    let calm : fault_among m r.outcome at (bears_past max (max + 1 - room) (length r.outcome.births)) ≡ None = rw
    (bears_past-room max room r le) none in
    record { fits = fits; fault = rw (split, calm, next) refl; next = rw (split, ← next) refl }
