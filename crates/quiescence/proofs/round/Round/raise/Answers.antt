use Rattle.std.proofs.Common.{arith}
use Rattle.quiescence.proofs.Keeping.{still_hand, now_learnt}
use Rattle.quiescence.proofs.round.Round.raise.Goals as goal

pub invariant_of-hand : goal.invariant_of-hand
invariant_of-hand c = still_hand _ _ _ _ _ _ _ _ _ c.hand.view_is c.requires.of c.requires.may c.hand.invariant c.add.ensures.plays _ _ (omega arith) (omega arith)

pub returns-clause-learnt : goal.returns-clause-learnt
returns-clause-learnt c = now_learnt _ _ _ _ _ _ _ _ _ c.hand.view_is c.requires.of c.requires.may c.hand.invariant c.add.ensures.plays
