use Rattle.std.proofs.Common.{◌≡◌, ◌≢◌, ℕ, false}
use Rattle.quiet_core.specs.Account.{has_met}
use Rattle.work_claims.specs.Acting.{AtRest, Keeps, Tells, frees}
use Rattle.work_claims.proofs.acting.act_manager.Given as goal

abbrev pub invariant-loop : goal.invariant-loop
invariant-loop g l = record {
  of : l.hand.round ≡ l.round;
  keeps : Keeps l.fn.hand.account l.hand.account;
  tells : Tells g.A.Actor.meaning (g.W.Scene.placed l.world) l.reports l.hand.account;
  rest : AtRest l.hand.account;
  not_met : has_met l.hand.account l.m.0 ≡ false;
  elsewhere : (k : ℕ) → k ≢ l.m.0 → has_met l.hand.account k ≡ has_met l.fn.hand.account k;
}

abbrev pub decreases-loop : goal.decreases-loop
decreases-loop g l = frees l.round.shape l.hand.account l.m.0
