-- The rounds of an answer: those of the run that it tells, and else none.
use Rattle.std.proofs.Common.{◌≡◌, ℕ, List, Ok, Err, Result, ap, refl, subst, sym, ◌∙◌}
use Rattle.quiescence.specs.Rounds.{no_rounds}
use Rattle.sim_model.specs.Run.{run_of}
use Rattle.sim_model.specs.declared.stage.Stage.{Stage}
use Rattle.sim_model.specs.declared.stage.Stage.TheVariants.{Going, Over}
use Rattle.scenario.specs.AnyActors.{any_meaning}
use Rattle.scenario.specs.Format.{scenario_of}
use Rattle.scenario.specs.Generated.{generated}
use Rattle.scenario.specs.ScenarioParts.{ScenarioParts}
use Rattle.scenario.specs.declared.any_actor.AnyActor.{AnyActor}
use Rattle.placement.specs.Plans.{PlanParts}
use Rattle.tick_advance.specs.RoundsOf.{rounds_of}
use Rattle.sim_top.specs.Clauses.{RunsNothing}
use Rattle.sim_top.specs.Commands.Check.{check_answer}
use Rattle.sim_top.specs.Commands.Gen.{gen_answer, summary_at}
use Rattle.sim_top.specs.Commands.Help.{help_answer}
use Rattle.sim_top.specs.Commands.Plan.{plan_answer}
use Rattle.sim_top.specs.Commands.Run.{answer_at, run_answer}
use Rattle.sim_top.specs.Commands.Upgrade.{upgrade_answer}
use Rattle.sim_top.specs.Commands.Version.{version_answer}
use Rattle.sim_top.specs.Tasks.{Task, answer, answer_by, answered, reads_nothing, reads_scenario, scenario_read, task_of}
use Rattle.sim_top.specs.declared.answer.Answer.{Answer}
use Rattle.sim_top.specs.declared.reading.InputRefusal.{InputRefusal}
use Rattle.sim_top.specs.declared.words.Command.{Command}
use Rattle.sim_top.specs.declared.words.Command.TheVariants as command
use Rattle.sim_top.specs.declared.words.Order.{Order}

-- ---- what runs

run_rounds : (s : ScenarioParts) → (run_answer s).rounds ≡ rounds_of any_meaning s.setup
unfolding run_answer
run_rounds s = at_stage (run_of any_meaning s.setup) where
  at_stage : (p : Stage AnyActor) → (answer_at s.rules (rounds_of any_meaning s.setup) p).rounds ≡ rounds_of any_meaning s.setup
  at_stage (Going u) = refl
  at_stage (Over e) = refl

gen_rounds : (groups : ℕ) → (gen_answer groups).rounds ≡ rounds_of any_meaning (generated groups).setup
unfolding gen_answer
gen_rounds groups = at_stage (run_of any_meaning (generated groups).setup) where
  at_stage : (p : Stage AnyActor) → (summary_at (generated groups) (rounds_of any_meaning (generated groups).setup) p).rounds
      ≡ rounds_of any_meaning (generated groups).setup
  at_stage (Going u) = refl
  at_stage (Over e) = refl

-- an answer of `run` has the rounds of the run of its scenario
pub of_run : (o : Order) (bytes : List ℕ) (s : ScenarioParts) (a : Answer) → o.command ≡ command.Run → scenario_of bytes ≡ Ok s → answer o bytes ≡ Ok a
    → a.rounds ≡ rounds_of any_meaning s.setup
of_run o bytes s a is read e =
    let asked : answer_by (task_of command.Run o.plan) bytes ≡ Ok a = subst (λ (c : Command). answer_by (task_of c o.plan) bytes ≡ Ok a) is e in
    let of_read : answered run_answer (scenario_read (Ok s)) ≡ Ok a = rw read at asked in
    let same : run_answer s ≡ a = cc in
    ap (λ (b : Answer). b.rounds) (sym same) ∙ run_rounds s

-- ... and one of `gen` those of the generated scenario
pub of_gen : (o : Order) (n : ℕ) (bytes : List ℕ) (a : Answer) → o.command ≡ command.Gen n → answer o bytes ≡ Ok a
    → a.rounds ≡ rounds_of any_meaning (generated n).setup
of_gen o n bytes a is e =
    let asked : answer_by (task_of (command.Gen n) o.plan) bytes ≡ Ok a = subst (λ (c : Command). answer_by (task_of c o.plan) bytes ≡ Ok a) is e in
    let same : gen_answer n ≡ a = cc in
    ap (λ (b : Answer). b.rounds) (sym same) ∙ gen_rounds n

-- ---- what doesn't

-- an answer that closed none
abbrev Unrun : Answer → Type 0
Unrun a = a.rounds ≡ no_rounds

-- ... of a task, whatever was read
abbrev AlwaysUnrun : Task → Type 0
AlwaysUnrun (reads_nothing a) = Unrun a
AlwaysUnrun (reads_scenario f) = (s : ScenarioParts) → Unrun (f s)

check_unrun : (s : ScenarioParts) → Unrun (check_answer s)
unfolding check_answer
check_unrun s = refl

plan_unrun : (p : PlanParts) (s : ScenarioParts) → Unrun (plan_answer p s)
unfolding plan_answer
plan_unrun p s = refl

upgrade_unrun : (s : ScenarioParts) → Unrun (upgrade_answer s)
unfolding upgrade_answer
upgrade_unrun s = refl

help_unrun : Unrun help_answer
unfolding help_answer
help_unrun = refl

version_unrun : Unrun version_answer
unfolding version_answer
version_unrun = refl

each_unrun : (c : Command) (p : PlanParts) → RunsNothing c → AlwaysUnrun (task_of c p)
each_unrun command.Run p h = absurd h
each_unrun command.Live p h = absurd h
each_unrun command.Check p h = check_unrun
each_unrun command.Plan p h = plan_unrun p
each_unrun (command.Gen n) p h = absurd h
each_unrun command.Upgrade p h = upgrade_unrun
each_unrun command.Help p h = help_unrun
each_unrun command.Version p h = version_unrun

with_scenario : (f : ScenarioParts → Answer) (r : Result ScenarioParts InputRefusal) (a : Answer) → ((s : ScenarioParts) → Unrun (f s)) → answered f r ≡ Ok a → Unrun a
with_scenario f (Ok s) a h e = let same : f s ≡ a = cc in ap (λ (b : Answer). b.rounds) (sym same) ∙ h s
with_scenario f (Err r) a h e = cc

of_task : (t : Task) (bytes : List ℕ) (a : Answer) → AlwaysUnrun t → answer_by t bytes ≡ Ok a → Unrun a
of_task (reads_nothing b) bytes a h e = let same : b ≡ a = cc in ap (λ (b : Answer). b.rounds) (sym same) ∙ h
of_task (reads_scenario f) bytes a h e = with_scenario f (scenario_read (scenario_of bytes)) a h e

-- an answer of a command that runs nothing
pub unrun : (o : Order) (bytes : List ℕ) (a : Answer) → RunsNothing o.command → answer o bytes ≡ Ok a → a.rounds ≡ no_rounds
unrun o bytes a h e = of_task (task_of o.command o.plan) bytes a (each_unrun o.command o.plan h) e
