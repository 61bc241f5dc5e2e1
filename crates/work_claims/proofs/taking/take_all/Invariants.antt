use Rattle.std.proofs.Common.{◌≡◌}
use Rattle.quiescence.specs.Answers.{NoDuty}
use Rattle.work_claims.specs.Collecting.{TakingAll}
use Rattle.work_claims.proofs.taking.take_all.Given as goal

abbrev pub invariant-loop-m : goal.invariant-loop-m
invariant-loop-m l = record {
  of : l.hand.round ≡ l.round;
  took : TakingAll l.m l.n.0 l.fn.hand.account l.hand.account;
  no_duty : NoDuty l.hand.account;
}
