use Rattle.std.proofs.Common.{ap, ◌∙◌, arith}
use Rattle.quiet_core.specs.Account.{Account, acks, knows}
use Rattle.quiet_core.proofs.Sums.{pair_here}
use Rattle.quiet_tests.proofs.running_round.take_in.Goals as goal

pub ack_all-requires-clause-known : goal.ack_all-requires-clause-known
ack_all-requires-clause-known c = let e = ap (λ (a : Account). knows a c.loop-m.m c.args.to.0) c.look-n.ensures.known ∙ pair_here c.loop-m.hand.account.known c.loop-m.m c.args.to.0 c.look-n.result in omega arith

pub loop-m-preserved : goal.loop-m-preserved
loop-m-preserved c = (
  record { of = c.ack_all.ensures.of; weight = c.ack_all.ensures.weight },
  c.ack_all.ensures.collects,
  λ k l h. c.ack_all.ensures.others k (λ e. omega arith) ∙ ap (λ (a : Account). acks a k c.args.to.0) c.look-n.ensures.known ∙ c.loop-m.invariant.2 k (omega arith) h,
)
