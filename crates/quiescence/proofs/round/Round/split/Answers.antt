use Rattle.std.proofs.Common.{◌≤◌, sym, subst}
use Rattle.quiescence.specs.Rule.{Holding}
use Rattle.quiescence.proofs.Keeping.{kept_hand, given_hand}
use Rattle.quiescence.proofs.round.Round.split.Goals as goal

pub invariant_of-hand : goal.invariant_of-hand
invariant_of-hand c =
    let two : 2 ≤ c.hand.inside.seat.me.0.account.weight = subst (λ (h : Holding). 2 ≤ h.account.weight) (sym c.hand.view_is) c.requires.weight in
    rw c.halve-seat.ensures.kept (kept_hand _ _ _ _ c.hand.invariant two)

pub invariant_of-result : goal.invariant_of-result
invariant_of-result c =
    let two : 2 ≤ c.hand.inside.seat.me.0.account.weight = subst (λ (h : Holding). 2 ≤ h.account.weight) (sym c.hand.view_is) c.requires.weight in
    rw c.halve-seat.ensures.new (given_hand _ _ _ _ c.hand.invariant two)
