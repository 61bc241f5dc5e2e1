use Rattle.std.proofs.Common.{arith}
use Rattle.quiescence.proofs.Keeping.{event, still_hand, now_learnt}
use Rattle.quiescence.proofs.Learns.{looked}
use Rattle.quiescence.proofs.round.Round.look.Goals as goal

pub invariant_of-hand : goal.invariant_of-hand
invariant_of-hand c = still_hand _ _ _ _ _ _ _ _ _ c.hand.view_is c.requires.of c.requires.may c.hand.invariant c.read.ensures.plays _ _ (omega arith) (omega arith)

pub returns-clause-not_less : goal.returns-clause-not_less
returns-clause-not_less c = (looked _ _ _ _ _ _ c.requires.may (event _ _ _ _ _ _ _ _ _ c.hand.view_is c.requires.of c.requires.may c.hand.invariant c.read.ensures.plays)).0

pub returns-clause-own : goal.returns-clause-own
returns-clause-own c = (looked _ _ _ _ _ _ c.requires.may (event _ _ _ _ _ _ _ _ _ c.hand.view_is c.requires.of c.requires.may c.hand.invariant c.read.ensures.plays)).1

pub returns-clause-learnt : goal.returns-clause-learnt
returns-clause-learnt c = now_learnt _ _ _ _ _ _ _ _ _ c.hand.view_is c.requires.of c.requires.may c.hand.invariant c.read.ensures.plays
