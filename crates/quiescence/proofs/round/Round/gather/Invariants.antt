use Rattle.std.proofs.Common.{◌≡◌}
use Rattle.quiescence.specs.Joint.{pooled, joint, AllOf}
use Rattle.quiescence.proofs.round.Round.gather.Given as goal

abbrev pub invariant-loop-hand : goal.invariant-loop-hand
invariant-loop-hand l = (l.last.round ≡ l.self) × AllOf l.self l.hands.items × (pooled l.last.account l.hands.items ≡ joint l.fn.hands.items)

abbrev pub decreases-loop-hand : goal.decreases-loop-hand
decreases-loop-hand l = goal.left-loop-hand l
