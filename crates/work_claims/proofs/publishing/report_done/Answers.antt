use Rattle.quiet_core.specs.Account.{reported}
use Rattle.quiet_core.specs.Step.{put_mark}
use Rattle.quiescence.proofs.Climbs.{only_holding}
use Rattle.work_claims.proofs.Climbing.{marks_after, still_after, still_marked, still_trans}
use Rattle.work_claims.proofs.publishing.report_done.Goals as goal

pub returns-clause-still : goal.returns-clause-still
returns-clause-still c = still_trans c.args.hand.now.account (put_mark c.args.hand.now.account c.args.m.0 c.args.i reported) c.climb_up.new.hand.account
    (still_marked c.args.hand.now.account c.args.m.0 c.args.i reported) (still_after c.done-after.result (put_mark c.args.hand.now.account c.args.m.0 c.args.i reported) c.done-after.new.hand.account
    c.climb_up.new.hand.account c.done-after.ensures.done c.climb_up.ensures.same)

pub returns-clause-marks : goal.returns-clause-marks
returns-clause-marks c = marks_after c.done-after.result (put_mark c.args.hand.now.account c.args.m.0 c.args.i reported) c.done-after.new.hand.account
    c.climb_up.new.hand.account c.done-after.ensures.done c.climb_up.ensures.same

pub returns-clause-no_duty : goal.returns-clause-no_duty
returns-clause-no_duty c = c.climb_up.ensures.no_duty
    (rw c.done-after.ensures.done (only_holding c.done-after.result (put_mark c.args.hand.now.account c.args.m.0 c.args.i reported) c.requires.no_duty))
