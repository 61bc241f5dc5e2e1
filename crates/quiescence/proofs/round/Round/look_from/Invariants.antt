use Rattle.quiescence.specs.Joint.{LookedFrom}
use Rattle.quiescence.proofs.round.Round.look_from.Given as goal

abbrev pub invariant-loop-n : goal.invariant-loop-n
invariant-loop-n l = LookedFrom l.fn.hand l.hand l.fn.m.0 l.n
