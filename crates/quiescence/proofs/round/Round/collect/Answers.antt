use Rattle.std.proofs.Common.{arith, ◌∙◌, ℕ, subst}
use Rattle.quiescence.proofs.Keeping.{event, still_hand, now_learnt}
use Rattle.quiescence.proofs.Learns.{collected, taken, taken_one, own_turn, first_turn}
use Rattle.quiescence.specs.Rule.{Did}
use Rattle.quiet_core.specs.declared.deed.Deed.TheVariants.{Collect}
use Rattle.quiescence.proofs.round.Round.collect.Goals.{then-found-eq0, else-found-eq0}
use Rattle.quiescence.proofs.round.Round.collect.Goals as goal

pub invariant_of-hand : goal.invariant_of-hand
invariant_of-hand c = still_hand _ _ _ _ _ _ _ _ _ c.hand.view_is c.requires.of c.requires.may c.hand.invariant c.set-found.ensures.plays _ _ (omega arith) (omega arith)

pub returns-clause-event : goal.returns-clause-event
returns-clause-event c =
    let e = event _ _ _ _ _ _ _ _ _ c.hand.view_is c.requires.of c.requires.may c.hand.invariant c.set-found.ensures.plays in
    let t = c.args.self.now.shape in
    let a = c.args.hand.now.account in
    elim c.if-found-eq0.branch [
      | then-found-eq0 w ↦ rw w.result-is (subst (λ (x : ℕ). Did t (Collect c.args.to.0) a x c.set-found.new.seat.me.0.account) w.if-found-eq0.true e)
      | else-found-eq0 w ↦ rw w.result-is (subst (λ (x : ℕ). Did t (Collect c.args.to.0) a x c.set-found.new.seat.me.0.account) (taken_one _ _ _ _ _ c.requires.may e w.if-found-eq0.false) e)
    ]

pub returns-clause-turn : goal.returns-clause-turn
returns-clause-turn c =
    let e = event _ _ _ _ _ _ _ _ _ c.hand.view_is c.requires.of c.requires.may c.hand.invariant c.set-found.ensures.plays in
    elim c.if-found-eq0.branch [
      | then-found-eq0 w ↦ rw w.result-is (collected _ _ _ _ _ c.requires.may e w.if-found-eq0.true)
      | else-found-eq0 w ↦ rw w.result-is (taken _ _ _ _ _ e w.if-found-eq0.false)
    ]

pub returns-clause-own : goal.returns-clause-own
returns-clause-own c whole =
    let e = event _ _ _ _ _ _ _ _ _ c.hand.view_is c.requires.of c.requires.may c.hand.invariant c.set-found.ensures.plays in
    let o = own_turn _ _ _ _ _ c.requires.may e whole in
    elim c.if-found-eq0.branch [
      | then-found-eq0 w ↦ rw w.result-is (o ∙ w.if-found-eq0.true)
      | else-found-eq0 w ↦ rw w.result-is (o ∙ taken_one _ _ _ _ _ c.requires.may e w.if-found-eq0.false)
    ]

pub returns-clause-learnt : goal.returns-clause-learnt
returns-clause-learnt c = now_learnt _ _ _ _ _ _ _ _ _ c.hand.view_is c.requires.of c.requires.may c.hand.invariant c.set-found.ensures.plays

pub returns-clause-first : goal.returns-clause-first
returns-clause-first c =
    let e = event _ _ _ _ _ _ _ _ _ c.hand.view_is c.requires.of c.requires.may c.hand.invariant c.set-found.ensures.plays in
    elim c.if-found-eq0.branch [
      | then-found-eq0 w ↦ rw w.result-is (first_turn _ _ _ _ _ c.requires.may e w.if-found-eq0.true)
      | else-found-eq0 w ↦ rw w.result-is tt
    ]
