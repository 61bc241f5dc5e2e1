use Rattle.work_claims.proofs.Takes.{ack_apart, ack_collected, ack_here, ack_known, ack_only, ack_stays}
use Rattle.work_claims.proofs.taking.ack_some.Goals as goal

pub returns-then-letters-gt0-clause-stays : goal.returns-then-letters-gt0-clause-stays
returns-then-letters-gt0-clause-stays c = ack_stays c.args.hand.now.account c.ack-after.new.hand.account c.climb_up.new.hand.account c.args.m.0 c.args.n.0
    c.args.letters c.ack-after.result c.ack-after.ensures.acked c.climb_up.ensures.same

pub returns-then-letters-gt0-clause-known : goal.returns-then-letters-gt0-clause-known
returns-then-letters-gt0-clause-known c = ack_known c.args.hand.now.account c.ack-after.new.hand.account c.climb_up.new.hand.account c.args.m.0 c.args.n.0
    c.args.letters c.ack-after.result c.ack-after.ensures.acked c.climb_up.ensures.same

pub returns-then-letters-gt0-clause-collected : goal.returns-then-letters-gt0-clause-collected
returns-then-letters-gt0-clause-collected c = ack_collected c.args.hand.now.account c.ack-after.new.hand.account c.climb_up.new.hand.account c.args.m.0
    c.args.n.0 c.args.letters c.ack-after.result c.ack-after.ensures.acked c.climb_up.ensures.same

pub returns-then-letters-gt0-clause-here : goal.returns-then-letters-gt0-clause-here
returns-then-letters-gt0-clause-here c = ack_here c.args.hand.now.account c.ack-after.new.hand.account c.climb_up.new.hand.account c.args.m.0 c.args.n.0
    c.args.letters c.ack-after.result c.ack-after.ensures.acked c.climb_up.ensures.same c.requires.none

pub returns-then-letters-gt0-clause-apart : goal.returns-then-letters-gt0-clause-apart
returns-then-letters-gt0-clause-apart c = ack_apart c.args.hand.now.account c.ack-after.new.hand.account c.climb_up.new.hand.account c.args.m.0 c.args.n.0
    c.args.letters c.ack-after.result c.ack-after.ensures.acked c.climb_up.ensures.same

pub returns-then-letters-gt0-clause-no_duty : goal.returns-then-letters-gt0-clause-no_duty
returns-then-letters-gt0-clause-no_duty c = c.climb_up.ensures.no_duty
    (ack_only c.args.hand.now.account c.ack-after.new.hand.account c.args.m.0 c.args.n.0 c.args.letters c.ack-after.result c.ack-after.ensures.acked
    c.requires.no_duty)
