use Rattle.std.proofs.Common.{◌≡◌}
use Rattle.work_claims.specs.Acting.{AreMet, AtRest, Keeps, Tells}
use Rattle.work_claims.proofs.alone.act_ascending.Given as goal

abbrev pub invariant-loop-claim : goal.invariant-loop-claim
invariant-loop-claim g l = record {
  of : l.hand.round ≡ l.round;
  keeps : Keeps l.fn.hand.account l.hand.account;
  tells : Tells g.A.Actor.meaning (g.W.Scene.placed l.world) l.reports l.hand.account;
  rest : AtRest l.hand.account;
  met : AreMet (g.W.Scene.placed l.world).managers l.met l.hand.account;
}
