use Rattle.std.proofs.Common.{◌≡◌, ℕ, suc, ◌+◌, ◌-◌, true, [], ◌∷◌, ◌++◌, replicate, sym, ap, ◌∙◌, arith}
use Rattle.quiet_core.specs.Step.{kept_part, new_part}
use Rattle.quiet_core.proofs.Counted.{replicate_last}
use Rattle.quiescence.specs.Rule.{RoundId, Holding}
use Rattle.quiescence.specs.Joint.{helper}
use Rattle.quiescence.proofs.round.Round.share.Goals as goal

pub loop-k-preserved : goal.loop-k-preserved
loop-k-preserved c =
    let f = c.args.first.now in
    let r = c.args.self.now in
    let t = r.shape in
    let i = c.loop-k.invariant in
    let k : ℕ = c.loop-k._k in
    let one = i.2 in
    let same : t.hands - (k - 1) - 1 ≡ t.hands - (k + 1 - 1) = omega arith in
    let more : suc (k - 1) ≡ k + 1 - 1 = omega arith in
    let kept = c.split-hand.ensures.kept in
    let both : c.split-hand.new.hand.account.collecting ≡ true = ap (λ (h : Holding). h.account.collecting) kept in
    let new : record c.loop-k.first { account = new_part t c.loop-k.first.account }
    ≡ helper r f.account.known = ap (λ (h : Holding). record h { account = new_part t h.account }) i.0
    ∙ ap (λ (q : RoundId). record { round = q; account = new_part t f.account }) c.requires.of in
    let hand : c.split-hand.result ≡ helper r f.account.known = c.split-hand.ensures.new ∙ new in
    let h = helper r f.account.known in (
      kept ∙ ap (λ (g : Holding). record g { account = kept_part g.account }) i.0 ∙ (λ j. record f { account = record f.account { weight = same j; collecting = sym both j } }),
      λ _. both,
      omega arith,
      λ e. absurd (omega arith),
      c.in_ok-push.ensures.items ∙ ap (λ l. l ++ c.split-hand.result ∷ []) i.4 ∙ ap (λ (g : Holding). replicate (k - 1) h ++ g ∷ []) hand ∙ replicate_last (k - 1) h ∙ ap (λ (n : ℕ). replicate n h) more,
    )
