use Rattle.quiescence.specs.Joint.{LookedAll}
use Rattle.quiescence.proofs.round.Round.look_all.Given as goal

abbrev pub invariant-loop-m : goal.invariant-loop-m
invariant-loop-m l = LookedAll l.self.shape l.fn.hand l.hand l.m
