use Rattle.std.proofs.Common.{arith}
use Rattle.quiescence.proofs.Keeping.{event, still_hand, now_learnt}
use Rattle.quiescence.proofs.Learns.{posted, knows_own}
use Rattle.quiescence.proofs.round.Round.post.Goals as goal

pub invariant_of-hand : goal.invariant_of-hand
invariant_of-hand c = still_hand _ _ _ _ _ _ _ _ _ c.hand.view_is c.requires.of c.requires.may c.hand.invariant c.add.ensures.plays _ _ (omega arith) (omega arith)

pub returns-clause-posted : goal.returns-clause-posted
returns-clause-posted c = let e = event _ _ _ _ _ _ _ _ _ c.hand.view_is c.requires.of c.requires.may c.hand.invariant c.add.ensures.plays in (c.add.result, posted _ _ _ _ _ _ _ _ c.requires.may e, e.account)

pub returns-clause-known : goal.returns-clause-known
returns-clause-known c = knows_own _ _ _ _ _ _ _ _ c.requires.may (event _ _ _ _ _ _ _ _ _ c.hand.view_is c.requires.of c.requires.may c.hand.invariant c.add.ensures.plays)

pub returns-clause-learnt : goal.returns-clause-learnt
returns-clause-learnt c = now_learnt _ _ _ _ _ _ _ _ _ c.hand.view_is c.requires.of c.requires.may c.hand.invariant c.add.ensures.plays
