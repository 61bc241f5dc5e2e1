use Rattle.agenda_wheel.specs.Seen.{IsLeastBelow}
use Rattle.agenda_wheel.proofs.levels.least_of_all.Given as goal

abbrev pub invariant-loop-tick : goal.invariant-loop-tick
invariant-loop-tick l = IsLeastBelow l.leasts l.tick-index l.least
