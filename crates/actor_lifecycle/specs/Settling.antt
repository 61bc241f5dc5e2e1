-- What becomes of the reports of a moment: the first fault, or the births, the birth letters and those who retire.
use Rattle.std.specs.Prelude.{ℕ, ◌+◌, ◌≤◌, List, map, Option, Some, None}
use Rattle.std.specs.List.Sorted.{IsStrictlyIncreasing}
use Rattle.sim_base.specs.declared.moment.Moment.{Moment}
use Rattle.actor_trait.specs.Meaning.{Meaning}
use Rattle.sim_model.specs.Births.{birth_letter, births_of_moment, without_births}
use Rattle.sim_model.specs.Moment.{enter, first_fault, next_id, reports, retired}
use Rattle.sim_model.specs.Run.{run_after}
use Rattle.sim_model.specs.SetupParts.{SetupParts}
use Rattle.sim_model.specs.declared.report.Fault.{Fault}
use Rattle.sim_model.specs.declared.report.Report.{Report}
use Rattle.sim_model.specs.declared.settled.Settled.{Settled}
use Rattle.sim_model.specs.declared.settled.Settled.TheVariants as becomes
use Rattle.sim_model.specs.declared.stage.Stage.{Stage}
use Rattle.sim_model.specs.declared.stage.Stage.TheVariants.{Going, Over}

-- a fault, or else what the moment brings
abbrev pub settled_by : {A : Type 0} → Meaning A → ℕ → List (Report A) → Option Fault → Settled A
settled_by m next rs (Some fault) = becomes.Faulted fault.actor fault.code
settled_by m next rs None =
    let born = births_of_moment m next rs in
    becomes.Settled (map without_births rs) born (map birth_letter born) (retired rs)

-- where the first newborn has the next number, and no actor may have one past the most
abbrev pub settled : {A : Type 0} → Meaning A → ℕ → ℕ → Moment → List (Report A) → Settled A
settled m max_actors next at rs = settled_by m next rs (first_fault m max_actors next at rs)

-- the reports of the moment that is entered next meet what `settle` asks
abbrev pub CanSettle : {A : Type 0} → Meaning A → Stage A → Type 0
CanSettle m (Going u) =
    let entered = enter u.world u.next in
    IsStrictlyIncreasing (map (λ r. r.id.0) (reports m entered u.next)) × (next_id entered ≤ entered.parameters.max_actors + 1)
CanSettle m (Over e) = Unit {0}

-- ... after so many moments of a run
abbrev pub CanSettleAfter : {A : Type 0} → Meaning A → SetupParts A → ℕ → Type 0
CanSettleAfter m s k = CanSettle m (run_after m s k)
