use Rattle.std.proofs.Common.{◌≡◌, ◌<◌, false, get_or, IfSome}
use Rattle.work_claims.proofs.alone.first_of.Given as goal

abbrev pub invariant-loop-m : goal.invariant-loop-m
invariant-loop-m g l = record {
  within : IfSome l.first (λ m. m < (g.W.Scene.placed l.world).managers);
  not_met : IfSome l.first (λ m. get_or l.met m false ≡ false);
}
