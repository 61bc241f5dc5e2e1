use Rattle.work_claims.proofs.Turning.{turn_else, turn_here, turn_same}
use Rattle.work_claims.proofs.turns.try_turn.Goals as goal

pub returns-in-Yours-clause-turn : goal.returns-in-Yours-clause-turn
returns-in-Yours-clause-turn c =
    (c.in-Yours.ensures.first, turn_here c.args.hand.now.account c.collect.new.hand.account c.args.n.0 c.in-Yours.ensures.turn.1)

pub returns-in-Yours-clause-same : goal.returns-in-Yours-clause-same
returns-in-Yours-clause-same c = turn_same c.args.hand.now.account c.collect.new.hand.account c.args.n.0 c.in-Yours.ensures.turn.1

pub returns-in-Yours-clause-others : goal.returns-in-Yours-clause-others
returns-in-Yours-clause-others c k ne = turn_else c.args.hand.now.account c.collect.new.hand.account c.args.n.0 k c.in-Yours.ensures.turn.1 ne

pub returns-in-Yours-clause-own : goal.returns-in-Yours-clause-own
returns-in-Yours-clause-own c _ = turn_here c.args.hand.now.account c.collect.new.hand.account c.args.n.0 c.in-Yours.ensures.turn.1
