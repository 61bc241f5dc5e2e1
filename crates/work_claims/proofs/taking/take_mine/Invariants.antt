use Rattle.std.proofs.Common.{◌≡◌}
use Rattle.quiescence.specs.Answers.{NoDuty}
use Rattle.work_claims.specs.Collecting.{Took}
use Rattle.work_claims.proofs.taking.take_mine.Given as goal

abbrev pub invariant-loop-n : goal.invariant-loop-n
invariant-loop-n l = record {
  of : l.hand.round ≡ l.round;
  took : Took l.round.shape l.n l.mine l.fn.hand.account l.hand.account;
  no_duty : NoDuty l.hand.account;
}
