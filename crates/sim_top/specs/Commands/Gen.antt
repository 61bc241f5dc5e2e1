-- `gen`: a summary of the run of a generated scenario.
use Rattle.std.specs.Prelude.{ℕ, ◌-◌, ◌==◌, List, [], ◌++◌, codes, length}
use Rattle.std.specs.Fmt.{decimal}
use Rattle.std.specs.List.{count_by}
use Rattle.hex.specs.Hex.{encode_lower}
use Rattle.sha2.specs.Sha256.{sha256}
use Rattle.sim_base.specs.Endings.{status_of_ending}
use Rattle.sim_base.specs.declared.status.Status.TheVariants as status
use Rattle.quiescence.specs.Rounds.{RoundSums}
use Rattle.sim_model.specs.Run.{results_of, run_of}
use Rattle.sim_model.specs.declared.run.Results.{Results}
use Rattle.sim_model.specs.declared.stage.Stage.{Stage}
use Rattle.sim_model.specs.declared.stage.Stage.TheVariants.{Going, Over}
use Rattle.result_store.specs.Text.{end_line, text_of}
use Rattle.scenario.specs.AnyActors.{any_meaning}
use Rattle.scenario.specs.Generated.{generated}
use Rattle.scenario.specs.ScenarioParts.{ScenarioParts}
use Rattle.scenario.specs.declared.any_actor.AnyActor.{AnyActor}
use Rattle.tick_advance.specs.RoundsOf.{rounds_of}
use Rattle.sim_top.specs.declared.answer.Answer.{Answer}

-- the lines of a run's text but its first and its last
abbrev pub sample_lines : List ℕ → ℕ
sample_lines text = count_by (λ byte. byte == 10) text - 2

-- how many actors the run began with, how many samples its text has, the text's digest and its last line
abbrev pub summary : (actors : ℕ) (text : List ℕ) → Results → List ℕ
summary actors text r =
    codes "actors," ++ decimal actors ++ codes "\n"
    ++ codes "samples," ++ decimal (sample_lines text) ++ codes "\n"
    ++ codes "sha256," ++ encode_lower (sha256 text) ++ codes "\n"
    ++ end_line r.last r.ending r.dead_letters

-- every run is over after its last moment, so the first case never comes
abbrev pub summary_at : ScenarioParts → RoundSums → Stage AnyActor → Answer
summary_at s sums (Going u) = record { text = []; status = status.NoMemory; rounds = sums }
summary_at s sums (Over e) = record {
  text = summary (length s.setup.actors) (text_of s.rules (results_of e)) (results_of e);
  status = status_of_ending e.ending;
  rounds = sums;
}

unfoldable pub gen_answer : (groups : ℕ) → Answer
gen_answer groups = summary_at (generated groups) (rounds_of any_meaning (generated groups).setup) (run_of any_meaning (generated groups).setup)
