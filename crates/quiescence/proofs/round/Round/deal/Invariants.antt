use Rattle.std.proofs.Common.{◌≡◌, ◌-◌, ◌≤◌, replicate}
use Rattle.quiet_core.specs.Account.{blank}
use Rattle.quiescence.specs.Joint.{new_hand}
use Rattle.quiescence.proofs.round.Round.deal.Given as goal

abbrev pub invariant-loop-k : goal.invariant-loop-k
invariant-loop-k l = (l.first.round ≡ l.self) × (l.first.account ≡ record (blank l.self.shape) { weight = l.self.shape.hands - (l._k - 1) }) × (1 ≤ l._k) × (l.hands.items ≡ replicate (l._k - 1) (new_hand l.self))
