use Rattle.std.proofs.Common.{◌≡◌, get_or}
use Rattle.work_claims.specs.Acting.{Publishing}
use Rattle.work_claims.proofs.publishing.publish.Given as goal

abbrev pub invariant-loop-n : goal.invariant-loop-n
invariant-loop-n l = record {
  of : l.hand.round ≡ l.round;
  done : Publishing l.m.0 l.i l.sending.total (λ j. get_or l.sending.to j 0) l.n l.fn.hand.account l.hand.account;
}
