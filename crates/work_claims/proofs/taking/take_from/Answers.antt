use Rattle.std.proofs.Common.{ap, sym, ◌∙◌}
use Rattle.quiet_core.specs.Account.{Account, knows}
use Rattle.quiet_core.proofs.Sums.{pair_here}
use Rattle.work_claims.proofs.Takes.{taking}
use Rattle.work_claims.proofs.taking.take_from.Goals as goal

pub ack_some-requires-clause-known : goal.ack_some-requires-clause-known
ack_some-requires-clause-known c = sym (ap (λ (b : Account). knows b c.args.m.0 c.args.n.0) c.look-issued.ensures.known
    ∙ pair_here c.args.hand.now.account.known c.args.m.0 c.args.n.0 c.look-issued.result)

pub returns-clause-took : goal.returns-clause-took
returns-clause-took c = taking c.args.hand.now.account c.look-issued.new.hand.account c.ack_some.new.hand.account c.args.m.0 c.args.n.0
    c.look-issued.result c.look-issued.ensures.known c.look-issued.ensures.not_less c.look-issued.ensures.own c.ack_some.ensures.stays
    c.ack_some.ensures.known c.ack_some.ensures.collected c.ack_some.ensures.here c.ack_some.ensures.apart
