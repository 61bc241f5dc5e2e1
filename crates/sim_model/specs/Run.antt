-- A whole run.
use Rattle.std.specs.Prelude.{◌≡◌, ℕ, zero, suc, ◌+◌, ◌*◌, List, [], ◌++◌, map, Option, Some, None}
use Rattle.std.specs.List.{flat_map}
use Rattle.sim_base.specs.declared.moment.Ending.{Ending}
use Rattle.sim_base.specs.declared.moment.Ending.TheVariants as ending
use Rattle.sim_base.specs.declared.moment.Moment.{Moment}
use Rattle.sim_base.specs.declared.moment.Row.{Row}
use Rattle.actor_trait.specs.Meaning.{Meaning}
use Rattle.sim_model.specs.Cast.{members_from}
use Rattle.sim_model.specs.Moment.{close, enter, fault_of_moment, reports, rows_of, what_comes_next}
use Rattle.sim_model.specs.SetupParts.{SetupParts}
use Rattle.sim_model.specs.Setups.{parameters_of}
use Rattle.sim_model.specs.declared.next.Next.{Next}
use Rattle.sim_model.specs.declared.next.Next.TheVariants.{Enters, Ends}
use Rattle.sim_model.specs.declared.report.Fault.{Fault}
use Rattle.sim_model.specs.declared.report.Report.{Report}
use Rattle.sim_model.specs.declared.run.Results.{Results}
use Rattle.sim_model.specs.declared.stage.Ended.{Ended}
use Rattle.sim_model.specs.declared.stage.Stage.{Stage}
use Rattle.sim_model.specs.declared.stage.Stage.TheVariants.{Going, Over}
use Rattle.sim_model.specs.declared.stage.Underway.{Underway}
use Rattle.sim_model.specs.declared.world.WorldState.{WorldState}

-- the initial actors, nothing asked for
abbrev pub opening_world : {A : Type 0} → Meaning A → SetupParts A → WorldState A
opening_world m s =
    record {
      parameters = parameters_of s;
      states = map (λ a. Some a.state) s.actors;
      agenda = [];
      letters = [];
      newborn = [];
      scheduled = [];
      cast = members_from m 1 s.actors;
      dead_letters = 0;
    }

-- a run enters (0,0) first
abbrev pub opening : {A : Type 0} → Meaning A → SetupParts A → Underway A
opening m s = record { last = None; next = record { tick = 0; diasca = 0 }; world = opening_world m s; rows = [] }

abbrev pub ended : {A : Type 0} → Moment → Ending → WorldState A → List Row → Stage A
ended last ending world rows = Over (record { last = last; ending = ending; world = world; rows = rows })

-- after the moment that was entered last
abbrev pub follow : {A : Type 0} → Moment → WorldState A → List Row → Next → Stage A
follow last world rows (Enters next) = Going (record { last = Some last; next = next; world = world; rows = rows })
follow last world rows (Ends ending) = ended last ending world rows

-- a fault adds nothing and ends the run
abbrev pub judge : {A : Type 0} → Meaning A → Moment → WorldState A → List Row → List (Report A) → Option Fault → Stage A
judge m at entered rows rs (Some fault) = ended at (ending.Fault fault.actor fault.code) entered rows
judge m at entered rows rs None =
    let closed = close m entered rs in
    follow at closed (rows ++ flat_map (rows_of at) rs) (what_comes_next closed at)

-- one moment
unfoldable pub step : {A : Type 0} → Meaning A → Underway A → Stage A
step m u =
    let entered = enter u.world u.next in
    let rs = reports m entered u.next in
    judge m u.next entered u.rows rs (fault_of_moment m entered u.next rs)

-- a run that is over stays so
unfoldable pub go_on : {A : Type 0} → Meaning A → Stage A → Stage A
go_on m (Going u) = step m u
go_on m (Over e) = Over e

-- a run goes on from a stage for so many moments
unfoldable pub run_from : {A : Type 0} → Meaning A → Stage A → ℕ → Stage A
run_from m p zero = p
run_from m p (suc k) = go_on m (run_from m p k)

-- the run of a setup after so many moments
abbrev pub run_after : {A : Type 0} → Meaning A → SetupParts A → ℕ → Stage A
run_after m s k = run_from m (Going (opening m s)) k

-- each moment is later than the one before, so no run has more of them
abbrev pub most_moments : {A : Type 0} → SetupParts A → ℕ
most_moments s = (s.last_tick + 1) * s.diasca_limit

-- the run of a setup
abbrev pub run_of : {A : Type 0} → Meaning A → SetupParts A → Stage A
run_of m s = run_after m s (most_moments s)

abbrev pub results_of : {A : Type 0} → Ended A → Results
results_of e = record { rows = e.rows; cast = e.world.cast; ending = e.ending; last = e.last; dead_letters = e.world.dead_letters }

-- the run of the setup ends, and gives these results
abbrev pub IsRun : {A : Type 0} → Meaning A → SetupParts A → Results → Type 0
IsRun {A} m s r = (e : Ended A) × (run_of m s ≡ Over e) × (r ≡ results_of e)

-- the run of the setup is over at some moment
abbrev pub RunEnds : {A : Type 0} → Meaning A → SetupParts A → Type 0
RunEnds {A} m s = (e : Ended A) × (run_of m s ≡ Over e)

-- from each stage that it comes to, the run goes on to each later one, and to its end
pub record RunGoesOn {A : Type 0} (m : Meaning A) (s : SetupParts A) (k j : ℕ) : Type 0 where
  pub later : run_from m (run_after m s k) j ≡ run_after m s (k + j)
  pub whole : run_from m (run_after m s k) (most_moments s) ≡ run_of m s
