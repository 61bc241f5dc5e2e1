use Rattle.std.proofs.Common.{◌≡◌, ℕ, suc, ◌+◌, ◌-◌, [], ◌∷◌, ◌++◌, replicate, ap, ◌∙◌, arith}
use Rattle.quiet_core.specs.Account.{blank}
use Rattle.quiet_core.proofs.Counted.{replicate_last}
use Rattle.quiescence.specs.Rule.{RoundId, Holding}
use Rattle.quiescence.specs.Joint.{new_hand}
use Rattle.quiescence.proofs.round.Round.deal.Goals as goal

pub loop-k-preserved : goal.loop-k-preserved
loop-k-preserved c =
    let r = c.args.self.now in
    let t = r.shape in
    let i = c.loop-k.invariant in
    let k : ℕ = c.loop-k._k in
    let weight = ap (λ a. a.weight) i.1 in
    let kept = c.new_hand-hand.ensures.kept in
    let one = i.2 in
    let same : c.loop-k.first.account.weight - 1 ≡ t.hands - (k + 1 - 1) = omega arith in
    let more : suc (k - 1) ≡ k + 1 - 1 = omega arith in (
      ap (λ (h : Holding). h.round) kept ∙ i.0,
      ap (λ (h : Holding). h.account) kept ∙ ap (λ (w : ℕ). record (blank t) { weight = w }) same,
      omega arith,
      c.in_ok-push.ensures.items ∙ ap (λ l. l ++ c.new_hand-hand.result ∷ []) i.3
          ∙ ap (λ (g : Holding). replicate (k - 1) (new_hand r) ++ g ∷ []) c.new_hand-hand.ensures.new ∙ replicate_last (k - 1) (new_hand r)
          ∙ ap (λ (n : ℕ). replicate n (new_hand r)) more,
    )

pub returns : goal.returns
returns c =
    let r = c.args.self.now in
    let t = r.shape in
    let i = c.loop-k.invariant in
    let k : ℕ = c.loop-k._k in
    let one = i.2 in
    let end = c.loop-k.auto._k-end in
    let count = c.hands-count.ensures in
    let shape : c.self.inside.frame.hands ≡ t.hands = ap (λ (q : RoundId). q.shape.hands) c.self.view_is in
    let some = c.self.invariant.5 in
    let same : t.hands - (k - 1) ≡ 1 = omega arith in
    let more : suc (k - 1) ≡ t.hands = omega arith in
    let account : c.loop-k.first.account ≡ record (blank t) { weight = 1 } = i.1 ∙ ap (λ (w : ℕ). record (blank t) { weight = w }) same in
    let hand : c.loop-k.first ≡ new_hand r = λ j. record { round = i.0 j; account = account j } in
    c.in_ok-push-2.ensures.items ∙ ap (λ l. l ++ c.loop-k.first ∷ []) i.3
    ∙ ap (λ (g : Holding). replicate (k - 1) (new_hand r) ++ g ∷ []) hand ∙ replicate_last (k - 1) (new_hand r)
    ∙ ap (λ (n : ℕ). replicate n (new_hand r)) more
