use Rattle.std.proofs.Common.{◌≡◌, length}
use Rattle.work_claims.specs.Collecting.{Turned}
use Rattle.work_claims.proofs.turns.try_range.Given as goal

abbrev pub invariant-loop-n : goal.invariant-loop-n
invariant-loop-n l = record {
  of : l.hand.round ≡ l.round;
  wide : length l.mine ≡ 16;
  turned : Turned l.round.shape l.fn.range.0 l.n l.fn.mine l.mine l.fn.hand.account l.hand.account;
}
