use Rattle.std.proofs.Common.{ap, ◌∙◌}
use Rattle.quiet_core.specs.Account.{Account, acks}
use Rattle.quiescence.proofs.Readers.{acked_apart}
use Rattle.quiet_tests.proofs.running_round.ack_all.Goals as goal

pub returns-clause-others : goal.returns-clause-others
returns-clause-others c k ne = ap (λ (a : Account). acks a k c.args.to.0) c.climb_up.ensures.same
    ∙ acked_apart c.ack-after.result c.args.m.0 c.args.to.0 c.args.n k c.args.hand.now.account c.ack-after.new.hand.account c.ack-after.ensures.acked ne
