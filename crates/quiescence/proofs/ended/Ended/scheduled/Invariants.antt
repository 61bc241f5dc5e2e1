use Rattle.std.proofs.Common.{◌≡◌}
use Rattle.quiet_core.specs.Rows.{below}
use Rattle.quiet_core.specs.Account.{scheduled}
use Rattle.quiescence.proofs.ended.Ended.scheduled.Given as goal

abbrev pub invariant-loop-m : goal.invariant-loop-m
invariant-loop-m l = l.sum ≡ below (λ m. scheduled l.self.frame m) l.m
