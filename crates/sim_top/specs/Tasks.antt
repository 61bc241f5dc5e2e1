-- What an order comes down to: what it reads, and what it answers to that.
use Rattle.std.specs.Prelude.{ℕ, List, Option, None, Some, Result, Ok, Err, ◌≡◌}
use Rattle.placement.specs.Plans.{PlanParts}
use Rattle.scenario.specs.Format.{scenario_of}
use Rattle.scenario.specs.ScenarioParts.{ScenarioParts}
use Rattle.scenario.specs.declared.refusal.Refusal.{Refusal}
use Rattle.sim_top.specs.Commands.Check.{check_answer}
use Rattle.sim_top.specs.Commands.Gen.{gen_answer}
use Rattle.sim_top.specs.Commands.Help.{help_answer}
use Rattle.sim_top.specs.Commands.Plan.{plan_answer}
use Rattle.sim_top.specs.Commands.Run.{run_answer}
use Rattle.sim_top.specs.Commands.Upgrade.{upgrade_answer}
use Rattle.sim_top.specs.Commands.Version.{version_answer}
use Rattle.sim_top.specs.declared.answer.Answer.{Answer}
use Rattle.sim_top.specs.declared.answer.AnswerFault.{AnswerFault}
use Rattle.sim_top.specs.declared.answer.AnswerFault.TheVariants as fault
use Rattle.sim_top.specs.declared.reading.InputRefusal.{InputRefusal}
use Rattle.sim_top.specs.declared.reading.InputRefusal.TheVariants as refusal
use Rattle.sim_top.specs.declared.reading.Reading.{Reading}
use Rattle.sim_top.specs.declared.reading.Reading.TheVariants as reading
use Rattle.sim_top.specs.declared.words.Command.{Command}
use Rattle.sim_top.specs.declared.words.Command.TheVariants as command
use Rattle.sim_top.specs.declared.words.Order.{Order}

-- ---- what may be read

-- the most bytes
abbrev pub limit : Reading → ℕ
limit reading.Scenario = 16777216

-- a scenario, or why the bytes are none
abbrev pub scenario_read : Result ScenarioParts Refusal → Result ScenarioParts InputRefusal
scenario_read (Ok s) = Ok s
scenario_read (Err r) = Err (refusal.Scenario r)

-- ---- what may be done with it

pub data Task : Type 0 where
  reads_nothing : Answer → Task
  reads_scenario : (ScenarioParts → Answer) → Task

abbrev pub reading_of : Task → Option Reading
reading_of (reads_nothing a) = None
reading_of (reads_scenario f) = Some reading.Scenario

abbrev pub answered : {A : Type 0} → (A → Answer) → Result A InputRefusal → Result Answer InputRefusal
answered f (Ok a) = Ok (f a)
answered f (Err r) = Err r

-- the answer to the bytes that were read; where nothing is read, to none
abbrev pub answer_by : Task → List ℕ → Result Answer InputRefusal
answer_by (reads_nothing a) bytes = Ok a
answer_by (reads_scenario f) bytes = answered f (scenario_read (scenario_of bytes))

-- ---- the table of commands

abbrev pub task_of : Command → PlanParts → Task
task_of command.Run plan = reads_scenario run_answer
task_of command.Live plan = reads_scenario run_answer
task_of command.Check plan = reads_scenario check_answer
task_of command.Plan plan = reads_scenario (plan_answer plan)
task_of (command.Gen n) plan = reads_nothing (gen_answer n)
task_of command.Upgrade plan = reads_scenario upgrade_answer
task_of command.Help plan = reads_nothing help_answer
task_of command.Version plan = reads_nothing version_answer

-- what an order reads: None is nothing
abbrev pub reads : Order → Option Reading
reads o = reading_of (task_of o.command o.plan)

-- what an order answers to these bytes, or why they are refused
abbrev pub answer : Order → List ℕ → Result Answer InputRefusal
answer o bytes = answer_by (task_of o.command o.plan) bytes

-- what a call answers, where it doesn't want memory
abbrev pub Gives : {A : Type 0} → Result A AnswerFault → Result A InputRefusal → Type 0
Gives (Ok a) meaning = meaning ≡ Ok a
Gives (Err (fault.Refused r)) meaning = meaning ≡ Err r
Gives (Err fault.Memory) meaning = Unit {0}
