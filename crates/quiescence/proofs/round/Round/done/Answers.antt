use Rattle.std.proofs.Common.{arith, ◌∙◌}
use Rattle.quiescence.proofs.Learns.{reached_is, holds_it}
use Rattle.quiescence.proofs.Keeping.{event, still_hand, now_learnt}
use Rattle.quiescence.proofs.Learns.{done_found, done_within}
use Rattle.quiescence.proofs.Keeping.{few_reported}
use Rattle.quiescence.proofs.round.Round.done.Goals as goal

pub overflow_add-hand : goal.overflow_add-hand
overflow_add-hand c = let h = c.hand.invariant in let e = h.reported_is in let f = few_reported _ _ h.stands in omega arith

pub overflow_sub-found : goal.overflow_sub-found
overflow_sub-found c = done_found _ _ _ _ _ _ c.requires.may (event _ _ _ _ _ _ _ _ _ c.hand.view_is c.requires.of c.requires.may c.hand.invariant c.sub-found.ensures.plays)

pub invariant_of-hand : goal.invariant_of-hand
invariant_of-hand c = still_hand _ _ _ _ _ _ _ _ _ c.hand.view_is c.requires.of c.requires.may c.hand.invariant c.sub-found.ensures.plays _ _ (omega arith) (omega arith)

pub returns-clause-done : goal.returns-clause-done
returns-clause-done c = let e = event _ _ _ _ _ _ _ _ _ c.hand.view_is c.requires.of c.requires.may c.hand.invariant c.sub-found.ensures.plays in e.account ∙ reached_is c.args.self.now.shape _ _ _ _ c.after.ensures

pub returns-clause-holds : goal.returns-clause-holds
returns-clause-holds c =
    let e = event _ _ _ _ _ _ _ _ _ c.hand.view_is c.requires.of c.requires.may c.hand.invariant c.sub-found.ensures.plays in
    holds_it c.args.self.now.shape _ _ _ _ _ c.after.ensures (e.account ∙ reached_is c.args.self.now.shape _ _ _ _ c.after.ensures)

pub returns-clause-event : goal.returns-clause-event
returns-clause-event c = let e = event _ _ _ _ _ _ _ _ _ c.hand.view_is c.requires.of c.requires.may c.hand.invariant c.sub-found.ensures.plays in
    record { found = c.sub-found.result; event = e; enough = done_found _ _ _ _ _ _ c.requires.may e; answer = c.after.ensures }

pub returns-clause-within : goal.returns-clause-within
returns-clause-within c = done_within _ _ _ _ _ _ c.requires.may (event _ _ _ _ _ _ _ _ _ c.hand.view_is c.requires.of c.requires.may c.hand.invariant c.sub-found.ensures.plays)

pub returns-clause-learnt : goal.returns-clause-learnt
returns-clause-learnt c = now_learnt _ _ _ _ _ _ _ _ _ c.hand.view_is c.requires.of c.requires.may c.hand.invariant c.sub-found.ensures.plays
