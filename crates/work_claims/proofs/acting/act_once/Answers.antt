use Rattle.work_claims.proofs.Telling.{one_open, tells_claimed, met_here, met_else, fewer, others_after}
use Rattle.work_claims.proofs.acting.act_once.Goals as goal

pub act_claimed-requires-clause-claimed : goal.act_claimed-requires-clause-claimed
act_claimed-requires-clause-claimed g c = rw c.in-Claimed.ensures.claim.2 (one_open c.args.hand.now.account c.args.m.0 c.in-Claimed.i c.requires.rest)

pub act_claimed-requires-clause-tells : goal.act_claimed-requires-clause-tells
act_claimed-requires-clause-tells g c = rw c.in-Claimed.ensures.claim.2
    (tells_claimed g.A.Actor.meaning (g.W.Scene.placed c.args.world.now) c.args.reports.now c.args.hand.now.account c.args.m.0 c.in-Claimed.i
    c.requires.tells c.in-Claimed.ensures.claim.1)

pub returns-in-Exhausted-clause-ended : goal.returns-in-Exhausted-clause-ended
returns-in-Exhausted-clause-ended g c _ = met_here c.args.hand.now.account c.claim.new.hand.account c.args.m.0 c.in-Exhausted.ensures.claim.1

pub returns-in-Exhausted-clause-elsewhere : goal.returns-in-Exhausted-clause-elsewhere
returns-in-Exhausted-clause-elsewhere g c k ne = met_else c.args.hand.now.account c.claim.new.hand.account c.args.m.0 k c.in-Exhausted.ensures.claim.1 ne

pub returns-in_ok-act_claimed-in-Claimed-clause-fewer :
    goal.returns-in_ok-act_claimed-in-Claimed-clause-fewer
returns-in_ok-act_claimed-in-Claimed-clause-fewer g c _ =
    fewer c.args.round.now.shape c.args.hand.now.account c.act_claimed.new.hand.account c.args.m.0 c.in-Claimed.i c.in-Claimed.ensures.claim.0
    c.in-Claimed.ensures.claim.1
    (others_after c.args.hand.now.account c.claim.new.hand.account c.act_claimed.new.hand.account c.args.m.0 c.in-Claimed.i c.in-Claimed.ensures.claim.2
    c.act_claimed.ensures.others)
    c.in_ok-act_claimed-in-Claimed.ensures.done
