use Rattle.std.proofs.Common.{ap, arith}
use Rattle.quiet_core.specs.Account.{scheduled}
use Rattle.quiescence.proofs.Keeping.{event, still_hand, now_learnt}
use Rattle.quiescence.proofs.Learns.{claimed, exhausted}
use Rattle.quiescence.proofs.round.Round.claim.Goals.{then-found-scheduled, else-found-scheduled}
use Rattle.quiescence.proofs.round.Round.claim.Goals as goal

pub invariant_of-hand : goal.invariant_of-hand
invariant_of-hand c = still_hand _ _ _ _ _ _ _ _ _ c.hand.view_is c.requires.of c.requires.may c.hand.invariant c.add-found.ensures.plays _ _ (omega arith) (omega arith)

pub returns-clause-event : goal.returns-clause-event
returns-clause-event c =
    let e = event _ _ _ _ _ _ _ _ _ c.hand.view_is c.requires.of c.requires.may c.hand.invariant c.add-found.ensures.plays in
    elim c.if-found-scheduled.branch [ then-found-scheduled w ↦ rw w.result-is e | else-found-scheduled w ↦ rw w.result-is e ]

pub returns-clause-claim : goal.returns-clause-claim
returns-clause-claim c =
    let e = event _ _ _ _ _ _ _ _ _ c.hand.view_is c.requires.of c.requires.may c.hand.invariant c.add-found.ensures.plays in
    let s = ap (λ r. scheduled r.shape c.args.m.0) c.self.view_is in
    let q = c.scheduled.ensures in
    elim c.if-found-scheduled.branch [
      | then-found-scheduled w ↦ rw w.result-is (claimed _ _ _ _ _ c.requires.may e (let l = w.if-found-scheduled.true in omega arith))
      | else-found-scheduled w ↦ rw w.result-is (exhausted _ _ _ _ _ e (let l = w.if-found-scheduled.false in omega arith))
    ]

pub returns-clause-learnt : goal.returns-clause-learnt
returns-clause-learnt c = now_learnt _ _ _ _ _ _ _ _ _ c.hand.view_is c.requires.of c.requires.may c.hand.invariant c.add-found.ensures.plays
