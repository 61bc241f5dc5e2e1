use Rattle.std.proofs.Common.{◌∙◌, arith}
use Rattle.quiescence.proofs.Learns.{reached_is, holds_it}
use Rattle.quiescence.proofs.Keeping.{event, still_hand, now_learnt}
use Rattle.quiescence.proofs.Learns.{climb_found, climbs_higher}
use Rattle.quiescence.proofs.Keeping.{climb_below}
use Rattle.quiescence.proofs.round.Round.climb.Goals as goal

pub above-above-requires : goal.above-above-requires
above-above-requires c = climb_below _ _ _ _ _ _ _ c.hand.view_is c.requires.of c.requires.may c.hand.invariant

pub overflow_sub-found : goal.overflow_sub-found
overflow_sub-found c = climb_found _ _ _ _ _ c.requires.may (event _ _ _ _ _ _ _ _ _ c.hand.view_is c.requires.of c.requires.may c.hand.invariant c.sub-found.ensures.plays)

pub after-requires : goal.after-requires
after-requires c =
    let l = climb_below _ _ _ _ _ _ _ c.hand.view_is c.requires.of c.requires.may c.hand.invariant in
    let e = event _ _ _ _ _ _ _ _ _ c.hand.view_is c.requires.of c.requires.may c.hand.invariant c.sub-found.ensures.plays in
    let high = e.before.kept.sized.parents_below c.args.node.0 l in
    let is = c.above-above.ensures in omega arith

pub invariant_of-hand : goal.invariant_of-hand
invariant_of-hand c = still_hand _ _ _ _ _ _ _ _ _ c.hand.view_is c.requires.of c.requires.may c.hand.invariant c.sub-found.ensures.plays _ _ (omega arith) (omega arith)

pub returns-clause-climbed : goal.returns-clause-climbed
returns-clause-climbed c =
    let e = event _ _ _ _ _ _ _ _ _ c.hand.view_is c.requires.of c.requires.may c.hand.invariant c.sub-found.ensures.plays in
    e.account ∙ reached_is c.args.self.now.shape _ _ _ _
    (rw c.above-above.ensures at c.after.ensures)

pub returns-clause-holds : goal.returns-clause-holds
returns-clause-holds c =
    let e = event _ _ _ _ _ _ _ _ _ c.hand.view_is c.requires.of c.requires.may c.hand.invariant c.sub-found.ensures.plays in
    let r = rw c.above-above.ensures at c.after.ensures in
    holds_it c.args.self.now.shape _ _ _ _ _ r (e.account ∙ reached_is c.args.self.now.shape _ _ _ _ r)

pub returns-clause-event : goal.returns-clause-event
returns-clause-event c = let e = event _ _ _ _ _ _ _ _ _ c.hand.view_is c.requires.of c.requires.may c.hand.invariant c.sub-found.ensures.plays in
    record { found = c.sub-found.result; event = e; enough = climb_found _ _ _ _ _ c.requires.may e; answer = rw c.above-above.ensures at c.after.ensures }

pub returns-clause-below : goal.returns-clause-below
returns-clause-below c = climb_below _ _ _ _ _ _ _ c.hand.view_is c.requires.of c.requires.may c.hand.invariant

pub returns-clause-learnt : goal.returns-clause-learnt
returns-clause-learnt c = now_learnt _ _ _ _ _ _ _ _ _ c.hand.view_is c.requires.of c.requires.may c.hand.invariant c.sub-found.ensures.plays

pub returns-clause-higher : goal.returns-clause-higher
returns-clause-higher c =
    let l = climb_below _ _ _ _ _ _ _ c.hand.view_is c.requires.of c.requires.may c.hand.invariant in
    let e = event _ _ _ _ _ _ _ _ _ c.hand.view_is c.requires.of c.requires.may c.hand.invariant c.sub-found.ensures.plays in
    climbs_higher c.args.self.now.shape c.args.node.0 _ _ e.before.kept.sized l (rw c.above-above.ensures at c.after.ensures)
