use Rattle.std.proofs.Common.{◌≡◌, ℕ, ◌<◌, ◌≤◌, true}
use Rattle.quiet_core.specs.Account.{has_met}
use Rattle.work_claims.specs.Acting.{AtRest, Keeps, Tells}
use Rattle.work_claims.proofs.alone.act_rest.Given as goal

abbrev pub invariant-loop-m : goal.invariant-loop-m
invariant-loop-m g l = record {
  of : l.hand.round ≡ l.round;
  keeps : Keeps l.fn.hand.account l.hand.account;
  tells : Tells g.A.Actor.meaning (g.W.Scene.placed l.world) l.reports l.hand.account;
  rest : AtRest l.hand.account;
  ended : (k : ℕ) → k < l.m → has_met l.hand.account k ≡ true;
  later : (k : ℕ) → l.m ≤ k → has_met l.hand.account k ≡ has_met l.fn.hand.account k;
}
