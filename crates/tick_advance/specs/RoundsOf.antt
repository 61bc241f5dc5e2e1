-- The rounds of a run: one for each moment at which somebody is scheduled.
use Rattle.std.specs.Prelude.{ℕ, zero, suc, if◌then◌else◌, List, [], ◌∷◌, length, is_none}
use Rattle.std.specs.List.{sum_by}
use Rattle.sim_base.specs.declared.ids.ActorId.{ActorId}
use Rattle.sim_base.specs.declared.moment.Moment.{Moment}
use Rattle.actor_trait.specs.Faults.{fault_shown}
use Rattle.actor_trait.specs.Meaning.{Meaning}
use Rattle.quiescence.specs.Rounds.{RoundSums, no_rounds, up_to_end}
use Rattle.sim_model.specs.Moment.{enter, reports}
use Rattle.sim_model.specs.Run.{most_moments, run_after}
use Rattle.sim_model.specs.SetupParts.{SetupParts}
use Rattle.sim_model.specs.declared.report.Report.{Report}
use Rattle.sim_model.specs.declared.stage.Stage.{Stage}
use Rattle.sim_model.specs.declared.stage.Stage.TheVariants.{Going, Over}
use Rattle.sim_model.specs.declared.world.WorldState.{WorldState}

-- how many letters one sends, which is none where its outcome shows a fault by itself
abbrev pub sends_at : {A : Type 0} → Meaning A → Moment → Report A → ℕ
sends_at m at r = if is_none (fault_shown m r.outcome at) then length r.outcome.sends else 0

-- the sums with one moment more, at which these are scheduled and of which this comes. Where nobody is scheduled there is no round
abbrev pub with_work : {A : Type 0} → Meaning A → Moment → List ActorId → List (Report A) → RoundSums → RoundSums
with_work m at [] rs sums = sums
with_work m at (id ∷ ids) rs sums = record {
  rounds = up_to_end sums.rounds 1;
  scheduled = up_to_end sums.scheduled (length (id ∷ ids));
  posted = up_to_end sums.posted (sum_by (sends_at m at) rs);
}

-- the sums with the moment that this world has entered
abbrev pub with_moment : {A : Type 0} → Meaning A → WorldState A → Moment → RoundSums → RoundSums
with_moment m entered at sums = with_work m at entered.scheduled (reports m entered at) sums

-- the sums with the moment that a run enters next, of which there is none where it is over
abbrev pub with_stage : {A : Type 0} → Meaning A → Stage A → RoundSums → RoundSums
with_stage m (Going u) sums = with_moment m (enter u.world u.next) u.next sums
with_stage m (Over e) sums = sums

-- the sums over the first moments of a run, so many
unfoldable pub rounds_after : {A : Type 0} → Meaning A → SetupParts A → ℕ → RoundSums
rounds_after m s zero = no_rounds
rounds_after m s (suc k) = with_stage m (run_after m s k) (rounds_after m s k)

-- the sums over all moments of the run of a setup, a faulted one too
abbrev pub rounds_of : {A : Type 0} → Meaning A → SetupParts A → RoundSums
rounds_of m s = rounds_after m s (most_moments s)
