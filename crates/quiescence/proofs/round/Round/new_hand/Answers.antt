use Rattle.std.proofs.Common.{◌≡◌, ◌≤◌, ap, sym, ◌∙◌, subst}
use Rattle.quiet_core.specs.Account.{Shape, blank}
use Rattle.quiescence.specs.Rule.{Holding, RoundId}
use Rattle.quiescence.proofs.Keeping.{less_hand, one_hand}
use Rattle.quiescence.proofs.round.Round.new_hand.Goals as goal

pub invariant_of-first : goal.invariant_of-first
invariant_of-first c =
    let two : 2 ≤ c.first.inside.seat.me.0.account.weight = subst (λ (h : Holding). 2 ≤ h.account.weight) (sym c.first.view_is) c.requires.weight in
    let is : c.first.inside.seat.me.0.shape ≡ c.args.self.now.shape = ap (λ (h : Holding). h.round.shape) c.first.view_is ∙ ap (λ (r : RoundId). r.shape) c.requires.of in
    let none = subst (λ (h : Holding). h.account ≡ record (blank c.args.self.now.shape) { weight = h.account.weight }) (sym c.first.view_is) c.requires.blank in
    let own = none ∙ ap (λ (t : Shape). record (blank t) { weight = c.first.inside.seat.me.0.account.weight }) (sym is) in
    rw c.cut-seat.ensures.kept (less_hand _ _ _ _ c.first.invariant two own)

pub invariant_of-result : goal.invariant_of-result
invariant_of-result c =
    let two : 2 ≤ c.first.inside.seat.me.0.account.weight = subst (λ (h : Holding). 2 ≤ h.account.weight) (sym c.first.view_is) c.requires.weight in
    let is : c.first.inside.seat.me.0.shape ≡ c.args.self.now.shape = ap (λ (h : Holding). h.round.shape) c.first.view_is ∙ ap (λ (r : RoundId). r.shape) c.requires.of in
    let none = subst (λ (h : Holding). h.account ≡ record (blank c.args.self.now.shape) { weight = h.account.weight }) (sym c.first.view_is) c.requires.blank in
    let own = none ∙ ap (λ (t : Shape). record (blank t) { weight = c.first.inside.seat.me.0.account.weight }) (sym is) in
    rw c.cut-seat.ensures.new (one_hand _ _ _ _ c.first.invariant two own)
