-- Past the managers of a round nothing is ever written.
use Rattle.std.proofs.Common.{◌≡◌, ℕ, ◌+◌, ◌-◌, ◌<◌, ◌⊎◌, inl, inr, ⊎_elim, true, false, cond, eqb, ltb, List, [], get_or, refl, sym, ap, ◌∙◌, subst, arith, zero-add, add-zero}
use mathlib.Core.Logic.{dite}
use native.Mathlib.Decide.{ℕ_discrete, dec_lt}
use Rattle.quiet_core.specs.declared.deed.Deed.{Deed}
use Rattle.quiet_core.specs.declared.deed.Deed.TheVariants as deed
use Rattle.quiet_core.specs.Rows.{put, put_pair, at_pair, blend}
use Rattle.quiet_core.specs.Account.{Shape, managers, scheduled, root, parent, Mark, free, fresh, told, reported, twice, Account, blank, mark, posts, acks, collects, owing}
use Rattle.quiet_core.specs.Step.{after, reached, put_mark, meet, united}
use Rattle.quiet_core.specs.Noted.{Within}
use Rattle.quiet_core.specs.Clear.{Inside, Clear}
use Rattle.quiet_core.proofs.Sums.{put_else, pair_beside, pair_apart, pairs_blend, blend_at, blend_none}
use Rattle.quiet_core.proofs.Untouched.{by_test, mark_apart}
use Rattle.quiet_core.proofs.Blank.{mark_none, posts_none, acks_none, collects_none}

pub meet_free : (k : Mark) → meet k free ≡ k
meet_free free = refl
meet_free fresh = refl
meet_free (told k) = refl
meet_free reported = refl
meet_free twice = refl

module _ (t : Shape) where
  -- of another manager a hand has nothing
  pub outside : (a : Account) (m i : ℕ) → Clear t a → (m < managers t → ⊥) → mark a m i ≡ free
  outside a m i c far = ⊎_elim (λ e. e) (λ l. absurd (far l)) (c.marks m i)

  pub blank_clear : (w : ℕ) → Clear t (record (blank t) { weight = w })
  blank_clear w = record { marks = λ m i. inl (mark_none t m i); posted = λ m n. inl (posts_none t m n); acked = λ m n. inl (acks_none t m n); collected = λ n. inl (collects_none t n) }

  pair_clear : (l : List (List ℕ)) (m n v : ℕ) → m < managers t → n < managers t → ((i j : ℕ) → (at_pair l i j ≡ 0) ⊎ Inside t i j) → (i j : ℕ) → (at_pair (put_pair l m n v) i j ≡ 0) ⊎ Inside t i j
  pair_clear l m n v lm ln old i j = dite (dec_lt i (managers t))
      (λ li. dite (dec_lt j (managers t)) (λ lj. inr (li, lj))
      (λ nj. dite (ℕ_discrete i m)
      (λ e. ⊎_elim (λ z. inl (ap (λ (k : ℕ). at_pair (put_pair l m n v) k j) e ∙ pair_beside l m n j v (λ f. nj (subst (λ (k : ℕ). k < managers t) (sym f) ln)) ∙ ap (λ (k : ℕ). at_pair l k j) (sym e) ∙ z)) inr (old i j))
      (λ ne. ⊎_elim (λ z. inl (pair_apart l m n i j v ne ∙ z)) inr (old i j))))
      (λ ni. ⊎_elim (λ z. inl (pair_apart l m n i j v (λ f. ni (subst (λ (k : ℕ). k < managers t) (sym f) lm)) ∙ z)) inr (old i j))

  marks_clear : (a : Account) (m i : ℕ) (k : Mark) → m < managers t → Clear t a → (n j : ℕ) → (mark (put_mark a m i k) n j ≡ free) ⊎ (n < managers t)
  marks_clear a m i k lm c n j = dite (ℕ_discrete n m) (λ e. inr (subst (λ (z : ℕ). z < managers t) (sym e) lm))
      (λ ne. ⊎_elim (λ z. inl (mark_apart a m n i j k ne ∙ z)) inr (c.marks n j))

  pub put_clear : (a : Account) (m i : ℕ) (k : Mark) → m < managers t → Clear t a → Clear t (put_mark a m i k)
  put_clear a m i k lm c = record { marks = marks_clear a m i k lm c; posted = c.posted; acked = c.acked; collected = c.collected }

  pub turn_clear : (a : Account) (n : ℕ) → n < managers t → Clear t a → Clear t (record a { collected = put 0 a.collected n 1 })
  turn_clear a n w c = record {
    marks = c.marks;
    posted = c.posted;
    acked = c.acked;
    collected = λ k. dite (ℕ_discrete k n) (λ e. inr (subst (λ (j : ℕ). j < managers t) (sym e) w)) (λ ne. ⊎_elim (λ z. inl (put_else 0 a.collected n k 1 ne ∙ z)) inr (c.collected k));
  }

  reached_clear : (j x : ℕ) (a : Account) → Clear t a → Clear t (reached t j x a)
  reached_clear j x a c = by_test (Clear t) (eqb x 0) (cond (eqb j (root t)) (record a { at_root = true }) (record a { duties = put false a.duties j true })) a
      (λ _. by_test (Clear t) (eqb j (root t)) (record a { at_root = true }) (record a { duties = put false a.duties j true })
      (λ _. record { marks = c.marks; posted = c.posted; acked = c.acked; collected = c.collected }) (λ _. record { marks = c.marks; posted = c.posted; acked = c.acked; collected = c.collected })) (λ _. c)

  pub after_clear : (d : Deed) (x : ℕ) (a : Account) → Within t d → Clear t a → Clear t (after t d x a)
  after_clear (deed.Claim m) x a w c = by_test (Clear t) (ltb x (scheduled t m)) (put_mark a m x fresh) (record a { exhausted = put false a.exhausted m true })
      (λ _. put_clear a m x fresh w c) (λ _. record { marks = c.marks; posted = c.posted; acked = c.acked; collected = c.collected })
  after_clear (deed.Raise m i n) x a w c = put_clear a m i (told n) w c
  after_clear (deed.Post m i to n) x a w c = record {
    marks = marks_clear a m i (told (owing (mark a m i) - n)) w.0 c;
    posted = pair_clear a.posted m to (posts a m to + n) w.0 w.1 c.posted;
    acked = c.acked;
    collected = c.collected;
  }
  after_clear (deed.Done m i) x a w c = reached_clear m (x - 1) (put_mark a m i reported) (put_clear a m i reported w c)
  after_clear (deed.Collect n) x a w c = by_test (Clear t) (eqb x 0) (record a { collected = put 0 a.collected n 1 }) a (λ _. turn_clear a n w c) (λ _. c)
  after_clear (deed.Look m n) x a w c = record { marks = c.marks; posted = c.posted; acked = c.acked; collected = c.collected }
  after_clear (deed.Ack m n k) x a w c = reached_clear m (x - k) (record a { acked = put_pair a.acked m n (acks a m n + k) }) (record {
    marks = c.marks;
    posted = c.posted;
    acked = pair_clear a.acked m n (acks a m n + k) w.0 w.1 c.acked;
    collected = c.collected;
  })
  after_clear (deed.Climb y) x a w c = reached_clear (parent t y) (x - 1) (record a { duties = put false a.duties y false }) (record { marks = c.marks; posted = c.posted; acked = c.acked; collected = c.collected })

  both_zero : {P : Type 0} (x y z : ℕ) → z ≡ x + y → (x ≡ 0) ⊎ P → (y ≡ 0) ⊎ P → (z ≡ 0) ⊎ P
  both_zero x y z e u v = ⊎_elim (λ a. ⊎_elim (λ b. inl (omega arith)) inr v) inr u

  pub united_clear : (a b : Account) → Clear t a → Clear t b → Clear t (united a b)
  united_clear a b c d = record {
    marks = λ m i. (let e : mark (united a b) m i ≡ meet (mark a m i) (mark b m i) =
        ap (λ (r : List Mark). get_or r i free) (blend_at (blend meet) [] (λ y. refl) (blend_none meet) a.marks b.marks m)
        ∙ blend_at meet free (λ y. refl) meet_free (get_or a.marks m []) (get_or b.marks m []) i in
        ⊎_elim (λ p. ⊎_elim (λ q. inl (e ∙ ap (λ (k : Mark). meet k (mark b m i)) p ∙ q)) inr (d.marks m i)) inr (c.marks m i));
    posted = λ m n. both_zero (posts a m n) (posts b m n) (posts (united a b) m n) (pairs_blend ◌+◌ zero-add add-zero a.posted b.posted m n) (c.posted m n) (d.posted m n);
    acked = λ m n. both_zero (acks a m n) (acks b m n) (acks (united a b) m n) (pairs_blend ◌+◌ zero-add add-zero a.acked b.acked m n) (c.acked m n) (d.acked m n);
    collected = λ n. both_zero (collects a n) (collects b n) (collects (united a b) n) (blend_at ◌+◌ 0 zero-add add-zero a.collected b.collected n) (c.collected n) (d.collected n);
  }
