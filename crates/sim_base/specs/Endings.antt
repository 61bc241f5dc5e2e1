-- What the ending of a run answers.
use Rattle.std.specs.Prelude.{ℕ}
use Rattle.sim_base.specs.declared.moment.Ending.{Ending}
use Rattle.sim_base.specs.declared.moment.Ending.TheVariants as ending
use Rattle.sim_base.specs.declared.status.Status.{Status}
use Rattle.sim_base.specs.declared.status.Status.TheVariants as status

abbrev pub status_of_ending : Ending → Status
status_of_ending ending.Exhausted = status.Done
status_of_ending ending.TickLimit = status.Done
status_of_ending ending.DiascaLimit = status.DiascaLimit
status_of_ending (ending.Fault actor code) = status.ActorFault

abbrev pub exit_code : Status → ℕ
exit_code status.Done = 0
exit_code status.InputFault = 1
exit_code status.OutputFault = 2
exit_code status.WordsRefused = 3
exit_code status.ScenarioRefused = 4
exit_code status.ActorFault = 5
exit_code status.DiascaLimit = 6
exit_code status.NoMemory = 7
