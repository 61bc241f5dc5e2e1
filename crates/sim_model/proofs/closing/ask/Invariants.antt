use Rattle.std.proofs.Common.{◌≡◌, take}
use Rattle.sim_model.specs.Moment.{ask}
use Rattle.sim_model.proofs.closing.ask.Given as goal

abbrev pub invariant-loop-tick : goal.invariant-loop-tick
invariant-loop-tick l = l.agenda ≡ ask l.actor l.fn.agenda (take l.tick-index l.ticks)
