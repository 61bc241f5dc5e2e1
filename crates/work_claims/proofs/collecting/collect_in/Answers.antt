use Rattle.work_claims.proofs.CollectsAll.{collected_all, collects_all, collects_turns, inboxes_all, mine_collects, mine_unacked, turns_no_duty}
use Rattle.work_claims.proofs.collecting.collect_in.Goals as goal

pub take_mine-requires-clause-collects : goal.take_mine-requires-clause-collects
take_mine-requires-clause-collects g c = mine_collects c.args.round.now.shape c.try_all-mine.result c.args.hand.account
    c.try_all-mine.new.hand.account c.try_all-mine.ensures.turned

pub take_mine-requires-clause-none : goal.take_mine-requires-clause-none
take_mine-requires-clause-none g c = mine_unacked c.args.round.now.shape c.try_all-mine.result c.args.hand.account
    c.try_all-mine.new.hand.account c.try_all-mine.ensures.turned

pub take_mine-requires-clause-no_duty : goal.take_mine-requires-clause-no_duty
take_mine-requires-clause-no_duty g c = turns_no_duty c.args.round.now.shape c.try_all-mine.result c.args.hand.account
    c.try_all-mine.new.hand.account c.try_all-mine.ensures.turned c.requires.no_duty

pub returns-in-Ok-clause-collects : goal.returns-in-Ok-clause-collects
returns-in-Ok-clause-collects g c = collects_all c.args.round.now.shape c.try_all-mine.result c.args.hand.account
    c.try_all-mine.new.hand.account c.take_mine.new.hand.account c.try_all-mine.ensures.turned c.take_mine.ensures.took

pub returns-in-Ok-clause-collected : goal.returns-in-Ok-clause-collected
returns-in-Ok-clause-collected g c _ = collected_all c.args.round.now.shape c.try_all-mine.result c.args.hand.account
    c.try_all-mine.new.hand.account c.take_mine.new.hand.account c.try_all-mine.ensures.turned c.take_mine.ensures.took

pub returns-in-Ok-clause-inboxes : goal.returns-in-Ok-clause-inboxes
returns-in-Ok-clause-inboxes g c _ = inboxes_all c.args.round.now.shape c.try_all-mine.result c.args.hand.account
    c.try_all-mine.new.hand.account c.take_mine.new.hand.account c.try_all-mine.ensures.turned c.take_mine.ensures.took g.A.Actor.meaning
    (g.W.Scene.placed c.args.world.now) (c.managers-managers.ensures.placed c.requires.entered) c.requires.fits c.args.reports.now c.in-Ok.inboxes
    c.in-Ok.ensures

pub returns-in-Err-clause-collects : goal.returns-in-Err-clause-collects
returns-in-Err-clause-collects g c = collects_turns c.args.round.now.shape c.try_all-mine.result c.args.hand.account
    c.try_all-mine.new.hand.account c.try_all-mine.ensures.turned

pub returns-in-Err-clause-no_duty : goal.returns-in-Err-clause-no_duty
returns-in-Err-clause-no_duty g c = turns_no_duty c.args.round.now.shape c.try_all-mine.result c.args.hand.account
    c.try_all-mine.new.hand.account c.try_all-mine.ensures.turned c.requires.no_duty
