-- What a run tells that keeps only what may stand in its text.
use Rattle.std.proofs.Common.{◌≡◌, ◌∙◌, ap, refl, sym, ℕ, List, length}
use Rattle.sim_base.specs.Endings.{status_of_ending}
use Rattle.sim_base.specs.declared.status.Status.{Status}
use Rattle.actor_trait.specs.Meaning.{Meaning}
use Rattle.quiescence.specs.Rounds.{RoundSums}
use Rattle.sim_model.specs.Run.{results_of, run_of}
use Rattle.sim_model.specs.SetupParts.{SetupParts}
use Rattle.sim_model.specs.declared.run.Results.{Results}
use Rattle.sim_model.specs.declared.stage.Ended.{Ended}
use Rattle.sim_model.specs.declared.stage.Stage.TheVariants.{Over}
use Rattle.result_store.specs.RuleParts.{RuleParts}
use Rattle.result_store.specs.Text.{text_of}
use Rattle.selection.specs.Selecting.{RunTextStays}
use Rattle.selection.specs.SelectionParts.{SelectionParts, may_show}
use Rattle.scenario.specs.AnyActors.{any_meaning}
use Rattle.scenario.specs.Generated.{generated}
use Rattle.scenario.specs.ScenarioParts.{ScenarioParts}
use Rattle.tick_advance.specs.RoundsOf.{rounds_of}
use Rattle.tick_advance.specs.RunKept.{IsRunKept}
use Rattle.sim_top.specs.Commands.Gen.{gen_answer, summary, summary_at}
use Rattle.sim_top.specs.Commands.Run.{answer_at, run_answer}
use Rattle.sim_top.specs.declared.answer.Answer.{Answer}

-- the end of a run, its text, and what its last line tells
pub record Tells {A : Type 0} (m : Meaning A) (s : SetupParts A) (rules : List RuleParts) (r : Results) (text : List ℕ) : Type 0 where
  pub end : Ended A
  pub over : run_of m s ≡ Over end
  pub whole : text ≡ text_of rules (results_of end)
  pub last : r.last ≡ end.last
  pub ending : r.ending ≡ end.ending
  pub dead_letters : r.dead_letters ≡ end.world.dead_letters

pub tells : {A : Type 0} (m : Meaning A) (s : SetupParts A) (rules : List RuleParts) (sel : SelectionParts) (r : Results) (text : List ℕ)
    → RunTextStays m s rules sel → IsRunKept m s (may_show sel) r → text ≡ text_of rules r → Tells m s rules r text
tells m s rules sel r text stays kept is =
    let all : Results = kept.0 in
    let run = kept.1 in
    record {
      end = run.0;
      over = run.1;
      whole = is ∙ ap (text_of rules) kept.2 ∙ stays all run ∙ ap (text_of rules) run.2;
      last = ap (λ (q : Results). q.last) kept.2 ∙ ap (λ (q : Results). q.last) run.2;
      ending = ap (λ (q : Results). q.ending) kept.2 ∙ ap (λ (q : Results). q.ending) run.2;
      dead_letters = ap (λ (q : Results). q.dead_letters) kept.2 ∙ ap (λ (q : Results). q.dead_letters) run.2;
    }

-- ---- the answers

-- `run` answers so
pub run_told : (s : ScenarioParts) (r : Results) (text : List ℕ) (status : Status) (sums : RoundSums) → Tells any_meaning s.setup s.rules r text
    → status ≡ status_of_ending r.ending → sums ≡ rounds_of any_meaning s.setup → run_answer s ≡ record { text = text; status = status; rounds = sums }
unfolding run_answer
run_told s r text status sums h ends same =
    let of_end : Answer = record { text = text_of s.rules (results_of h.end); status = status_of_ending h.end.ending; rounds = rounds_of any_meaning s.setup } in
    let asked : answer_at s.rules (rounds_of any_meaning s.setup) (run_of any_meaning s.setup) ≡ of_end = ap (answer_at s.rules (rounds_of any_meaning s.setup)) h.over in
    let given : record { text = text; status = status; rounds = sums } ≡ of_end = rw (ends, h.whole, h.ending, same) refl in
    asked ∙ sym given

-- `gen` answers so, whose scenario is this one
pub gen_told : (groups : ℕ) (s : ScenarioParts) (r : Results) (text lines : List ℕ) (status : Status) (sums : RoundSums) → s ≡ generated groups
    → Tells any_meaning s.setup s.rules r text → lines ≡ summary (length s.setup.actors) text r
    → status ≡ status_of_ending r.ending → sums ≡ rounds_of any_meaning s.setup → record { text = lines; status = status; rounds = sums } ≡ gen_answer groups
unfolding gen_answer
gen_told groups s r text lines status sums made h is ends same =
    let asks : ScenarioParts → Answer = λ (q : ScenarioParts). summary_at q (rounds_of any_meaning q.setup) (run_of any_meaning q.setup) in
    let of_end : Answer = summary_at s (rounds_of any_meaning s.setup) (Over h.end) in
    let asked : asks s ≡ of_end = ap (summary_at s (rounds_of any_meaning s.setup)) h.over in
    let given : record { text = lines; status = status; rounds = sums } ≡ of_end = rw (is, ends, h.whole, h.last, h.ending, h.dead_letters, same) refl in
    given ∙ sym asked ∙ ap asks made
