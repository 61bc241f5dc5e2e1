use Rattle.std.proofs.Common.{◌≡◌}
use Rattle.quiet_core.specs.Account.{root}
use Rattle.quiet_core.specs.Balance.{Sized}
use Rattle.quiescence.specs.Answers.{Holds, OnlyDuty, way_up}
use Rattle.quiescence.proofs.round.Round.climb_up.Given as goal

abbrev pub invariant-loop-after : goal.invariant-loop-after
invariant-loop-after l = record {
  sized : Sized l.self.shape;
  of : l.hand.round ≡ l.self;
  holds : Holds l.self.shape l.after l.hand.account;
  same : l.hand.account ≡ record l.fn.hand.account { duties = l.hand.account.duties; at_root = l.hand.account.at_root };
  only : OnlyDuty l.fn.after l.fn.hand.account → OnlyDuty l.after l.hand.account;
}

abbrev pub decreases-loop-after : goal.decreases-loop-after
decreases-loop-after l = way_up (root l.self.shape) l.after
