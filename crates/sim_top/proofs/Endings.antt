-- The status of an ending is that of a run that ended by itself.
use Rattle.sim_base.specs.Endings.{status_of_ending}
use Rattle.sim_base.specs.declared.moment.Ending.{Ending}
use Rattle.sim_base.specs.declared.moment.Ending.TheVariants.{Exhausted, TickLimit, DiascaLimit, Fault}
use Rattle.sim_top.specs.Statuses.{IsEnding}

pub ends : (e : Ending) → IsEnding (status_of_ending e)
ends Exhausted = tt
ends TickLimit = tt
ends DiascaLimit = tt
ends (Fault actor code) = tt
