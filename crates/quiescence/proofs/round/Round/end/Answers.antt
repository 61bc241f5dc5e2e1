use Rattle.std.proofs.Common.{◌≡◌, ℕ, ◌<◌, length, get_or, set, sym, ap, ◌∙◌, subst, arith, length-set, get_or-set_same, get_or-set_other}
use Rattle.std.specs.Slots.{slots_items, slots_counts}
use mathlib.Core.Logic.{dite}
use mathlib.Core.Option.{some}
use lib.ListN.{get_elem?}
use native.Mathlib.Decide.{ℕ_discrete}
use Rattle.quiet_core.specs.Account.{Shape}
use Rattle.quiescence.specs.Ended.{Ends}
use Rattle.quiescence.proofs.Totals.{same_rows}
use Rattle.quiescence.proofs.Left.{ends_at}
use Rattle.quiescence.proofs.round.Round.end.Goals as goal

pub word-requires : goal.word-requires
word-requires c =
    let counts = c.close_with-closed.ensures.counts.0 in let wide = c.self.invariant.4 in let words = c.self.invariant.1 in let ok = c.self.inside.words.ok in let len = c.len-place-end.ensures in
    (omega arith, c.close_with-closed.ensures.values.0)

pub loop-place-preserved : goal.loop-place-preserved
loop-place-preserved c =
    let ws = c.loop-place.words.items in
    let p : ℕ = c.loop-place.place in
    let wide = c.loop-place.invariant.0 in let ok = c.self.inside.words.ok in let len = c.len-place-end.ensures in
    let in_ : p < length ws = omega arith in (
      length-set ws p c.word.result ∙ wide,
      λ k l. dite (ℕ_discrete k p)
          (λ e. let put : get_or (set ws p c.word.result) k 0 ≡ c.word.result =
          ap (λ (j : ℕ). get_or (set ws p c.word.result) j 0) e ∙ get_or-set_same ws p c.word.result 0 in_ in
          ap (λ (j : ℕ). get_elem? (slots_items c.close_with-closed.result.words) j) e ∙ c.word.ensures ∙ ap (λ (x : ℕ). some x) (sym put))
          (λ ne. c.loop-place.invariant.1 k (omega arith) ∙ ap (λ (x : ℕ). some x) (sym (get_or-set_other ws p k c.word.result 0 ne))),
    )

pub free-requires : goal.free-requires
free-requires c k lt = let e = c.close_with-closed.ensures.counts.1 in let z = c.self.invariant.3 in absurd (omega arith)

pub returns-clause-ends : goal.returns-clause-ends
returns-clause-ends c =
    let values = rw c.self.invariant.0 at c.close_with-closed.ensures.values.2 in
    let counts = c.close_with-closed.ensures.counts.0 in let wide = c.self.invariant.4 in let words = c.self.invariant.1 in let ok = c.self.inside.words.ok in let len = c.len-place-end.ensures in
    let long = slots_counts c.close_with-closed.result.words in let same = c.loop-place.invariant.0 in
    let rows = same_rows c.loop-place.words.items (slots_items c.close_with-closed.result.words) (omega arith) (λ k l. c.loop-place.invariant.1 k (omega arith)) in
    let e = ends_at c.self.inside.frame c.args.seat.id c.args.seat.me.0 _ _ values c.loop-place.words.items rows in
    subst (λ (t : Shape). Ends t c.args.seat.me.0.account c.loop-place.words.items) (ap (λ r. r.shape) c.self.view_is) e
