use Rattle.std.proofs.Common.{◌≡◌, ◌+◌, length}
use Rattle.std.specs.List.{All}
use Rattle.round_cost.specs.Hands.{CanAct, One}
use Rattle.round_cost.proofs.moments.act_all.Given as goal

abbrev pub invariant-loop-hand : goal.invariant-loop-hand
invariant-loop-hand l = All (CanAct l.round) l.hands.items × All (One l.round) l.done.items × (length l.done.items + length l.hands.items ≡ length l.fn.hands.items)

abbrev pub decreases-loop-hand : goal.decreases-loop-hand
decreases-loop-hand l = length l.hands.items
