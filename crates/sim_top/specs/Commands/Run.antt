-- `run` and `live`: the text of the run, the status of its ending, and its rounds.
use Rattle.std.specs.Prelude.{List, []}
use Rattle.sim_base.specs.Endings.{status_of_ending}
use Rattle.sim_base.specs.declared.status.Status.TheVariants as status
use Rattle.quiescence.specs.Rounds.{RoundSums}
use Rattle.sim_model.specs.Run.{results_of, run_of}
use Rattle.sim_model.specs.declared.stage.Stage.{Stage}
use Rattle.sim_model.specs.declared.stage.Stage.TheVariants.{Going, Over}
use Rattle.result_store.specs.RuleParts.{RuleParts}
use Rattle.result_store.specs.Text.{text_of}
use Rattle.scenario.specs.AnyActors.{any_meaning}
use Rattle.scenario.specs.ScenarioParts.{ScenarioParts}
use Rattle.scenario.specs.declared.any_actor.AnyActor.{AnyActor}
use Rattle.tick_advance.specs.RoundsOf.{rounds_of}
use Rattle.sim_top.specs.declared.answer.Answer.{Answer}

-- every run is over after its last moment, so the first case never comes
abbrev pub answer_at : List RuleParts → RoundSums → Stage AnyActor → Answer
answer_at rules sums (Going u) = record { text = []; status = status.NoMemory; rounds = sums }
answer_at rules sums (Over e) = record { text = text_of rules (results_of e); status = status_of_ending e.ending; rounds = sums }

unfoldable pub run_answer : ScenarioParts → Answer
run_answer s = answer_at s.rules (rounds_of any_meaning s.setup) (run_of any_meaning s.setup)
