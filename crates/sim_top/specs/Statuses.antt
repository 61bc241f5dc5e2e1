-- The statuses in classes.
use Rattle.sim_base.specs.declared.status.Status.{Status}
use Rattle.sim_base.specs.declared.status.Status.TheVariants as status

-- those of a run that ended by itself
abbrev pub IsEnding : Status → Type 0
IsEnding status.Done = Unit {0}
IsEnding status.ActorFault = Unit {0}
IsEnding status.DiascaLimit = Unit {0}
IsEnding status.InputFault = ⊥
IsEnding status.OutputFault = ⊥
IsEnding status.WordsRefused = ⊥
IsEnding status.ScenarioRefused = ⊥
IsEnding status.NoMemory = ⊥

-- those with which nothing is written
abbrev pub WritesNothing : Status → Type 0
WritesNothing status.Done = ⊥
WritesNothing status.ActorFault = ⊥
WritesNothing status.DiascaLimit = ⊥
WritesNothing status.InputFault = Unit {0}
WritesNothing status.OutputFault = ⊥
WritesNothing status.WordsRefused = Unit {0}
WritesNothing status.ScenarioRefused = Unit {0}
WritesNothing status.NoMemory = Unit {0}

-- those with which an answer is written, whole or a front of it
abbrev pub MayWrite : Status → Type 0
MayWrite status.Done = Unit {0}
MayWrite status.ActorFault = Unit {0}
MayWrite status.DiascaLimit = Unit {0}
MayWrite status.InputFault = ⊥
MayWrite status.OutputFault = Unit {0}
MayWrite status.WordsRefused = ⊥
MayWrite status.ScenarioRefused = ⊥
MayWrite status.NoMemory = ⊥

-- those that are left where nothing failed and the scenario is accepted
abbrev pub IsEndingOrMemory : Status → Type 0
IsEndingOrMemory status.Done = Unit {0}
IsEndingOrMemory status.ActorFault = Unit {0}
IsEndingOrMemory status.DiascaLimit = Unit {0}
IsEndingOrMemory status.InputFault = ⊥
IsEndingOrMemory status.OutputFault = ⊥
IsEndingOrMemory status.WordsRefused = ⊥
IsEndingOrMemory status.ScenarioRefused = ⊥
IsEndingOrMemory status.NoMemory = Unit {0}
