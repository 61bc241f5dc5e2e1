use Rattle.std.proofs.Common.{◌≡◌, ◌-◌, ◌≤◌, true, replicate}
use Rattle.quiescence.specs.Joint.{helper}
use Rattle.quiescence.proofs.round.Round.share.Given as goal

abbrev pub invariant-loop-k : goal.invariant-loop-k
invariant-loop-k l = (l.first ≡ record l.fn.first {
  account =
      record l.fn.first.account { weight = l.self.shape.hands - (l._k - 1); collecting = l.first.account.collecting };
})
    × (2 ≤ l._k → l.first.account.collecting ≡ true) × (1 ≤ l._k) × (l._k ≡ 1 → l.first.account.collecting ≡ l.fn.first.account.collecting)
    × (l.hands.items ≡ replicate (l._k - 1) (helper l.self l.fn.first.account.known))
