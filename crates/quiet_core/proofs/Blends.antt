-- Two rows that are joined place by place, from the first place on.
use Rattle.std.proofs.Common.{◌≡◌, ℕ, zero, suc, ◌+◌, ◌<◌, ◌≤◌, List, [], ◌∷◌, length, get_or, set, refl, sym, ap, subst, ◌∙◌, add-one, arith}
use Rattle.quiet_core.specs.Rows.{blend, put, put_pair}
use Rattle.quiet_core.specs.Wide.{WidePairs}
use Rattle.quiet_core.proofs.Sums.{put_is_set}

module _ {A : Type 0} (f : A → A → A) where
  -- the first n places of two rows are joined, and the others are those of the first row
  abbrev pub blend_below : ℕ → List A → List A → List A
  blend_below zero a b = a
  blend_below (suc n) [] b = []
  blend_below (suc n) (x ∷ xs) [] = x ∷ xs
  blend_below (suc n) (x ∷ xs) (y ∷ ys) = f x y ∷ blend_below n xs ys

  pub length_below : (n : ℕ) (a b : List A) → length (blend_below n a b) ≡ length a
  length_below zero a b = refl
  length_below (suc n) [] b = refl
  length_below (suc n) (x ∷ xs) [] = refl
  length_below (suc n) (x ∷ xs) (y ∷ ys) = let r = length_below n xs ys in omega arith

  pub at_below : (n k : ℕ) (a b : List A) (d : A) → n ≤ k → get_or (blend_below n a b) k d ≡ get_or a k d
  at_below zero k a b d l = refl
  at_below (suc n) k [] b d l = refl
  at_below (suc n) k (x ∷ xs) [] d l = refl
  at_below (suc n) zero (x ∷ xs) (y ∷ ys) d l = absurd (omega arith)
  at_below (suc n) (suc k) (x ∷ xs) (y ∷ ys) d l = at_below n k xs ys d (omega arith)

  set_suc : (n : ℕ) (a b : List A) (v d : A) → length b ≡ length a → n < length a → v ≡ f (get_or a n d) (get_or b n d) → set (blend_below n a b) n v ≡ blend_below (suc n) a b
  set_suc n [] b v d w l e = absurd (omega arith)
  set_suc n (x ∷ xs) [] v d w l e = absurd (omega arith)
  set_suc zero (x ∷ xs) (y ∷ ys) v d w l e = ap (λ z. z ∷ xs) e
  set_suc (suc n) (x ∷ xs) (y ∷ ys) v d w l e = ap (λ (r : List A). f x y ∷ r) (set_suc n xs ys v d (omega arith) (omega arith) e)

  pub set_below : (n : ℕ) (a b : List A) (v d : A) → length b ≡ length a → n < length a → v ≡ f (get_or a n d) (get_or b n d) → set (blend_below n a b) n v ≡ blend_below (n + 1) a b
  set_below n a b v d w l e = set_suc n a b v d w l e ∙ ap (λ (k : ℕ). blend_below k a b) (sym (add-one n))

  none_left : (ys : List A) → length ys ≡ 0 → [] ≡ ys
  none_left [] e = refl
  none_left (y ∷ ys) e = absurd (omega arith)

  pub all_below : (n : ℕ) (a b : List A) → length b ≡ length a → length a ≤ n → blend_below n a b ≡ blend f a b
  all_below zero [] b w l = none_left b w
  all_below zero (x ∷ xs) b w l = absurd (omega arith)
  all_below (suc n) [] b w l = none_left b w
  all_below (suc n) (x ∷ xs) [] w l = refl
  all_below (suc n) (x ∷ xs) (y ∷ ys) w l = ap (λ (r : List A). f x y ∷ r) (all_below n xs ys (omega arith) (omega arith))

  -- the row so far is read as the first row was
  pub read_so_far : (l a b : List A) (n : ℕ) (d : A) → l ≡ blend_below n a b → get_or l n d ≡ get_or a n d
  read_so_far l a b n d e = ap (λ (r : List A). get_or r n d) e ∙ at_below n n a b d (omega arith)

  -- one place more
  pub one_more : (l a b : List A) (n : ℕ) (v d : A) → l ≡ blend_below n a b → length b ≡ length a → n < length a → v ≡ f (get_or l n d) (get_or b n d) → set l n v ≡ blend_below (n + 1) a b
  one_more l a b n v d e w lt is = ap (λ (r : List A). set r n v) e ∙ set_below n a b v d w lt (is ∙ ap (λ (x : A). f x (get_or b n d)) (read_so_far l a b n d e))

-- a table that is blended row by row stays as wide
module _ (f : ℕ → ℕ → ℕ) where
  length_blend : (a b : List ℕ) → length b ≡ length a → length (blend f a b) ≡ length a
  length_blend [] b w = w
  length_blend (x ∷ xs) [] w = refl
  length_blend (x ∷ xs) (y ∷ ys) w = let r = length_blend xs ys (omega arith) in omega arith

  rows_wide : (n : ℕ) (a b : List (List ℕ)) → ((m : ℕ) → m < length a → length (get_or b m []) ≡ length (get_or a m []))
      → (m : ℕ) → m < length a → length (get_or (blend_below (blend f) n a b) m []) ≡ length (get_or a m [])
  rows_wide zero a b w m l = refl
  rows_wide (suc n) [] b w m l = refl
  rows_wide (suc n) (x ∷ xs) [] w m l = refl
  rows_wide (suc n) (x ∷ xs) (y ∷ ys) w zero l = length_blend x y (w 0 (omega arith))
  rows_wide (suc n) (x ∷ xs) (y ∷ ys) w (suc m) l = rows_wide n xs ys (λ k lk. w (suc k) (omega arith)) m (omega arith)

  pub stays_wide : (l a b : List (List ℕ)) (n : ℕ) → l ≡ blend_below (blend f) n a b → WidePairs a → WidePairs b → WidePairs l
  stays_wide l a b n e v w = subst WidePairs (sym e) record {
    high = length_below (blend f) n a b ∙ v.high;
    wide = λ m lm. (let h = v.high in rows_wide n a b (λ k lk. w.wide k (omega arith) ∙ sym (v.wide k (omega arith))) m (omega arith) ∙ v.wide m lm);
  }

-- within a table, putting a number is setting it
pub put_pair_is_set : (l : List (List ℕ)) (m n v : ℕ) → WidePairs l → m < 16 → n < 16 → set l m (set (get_or l m []) n v) ≡ put_pair l m n v
put_pair_is_set l m n v w lm ln = let h = w.high in let u = w.wide m lm in
    ap (λ (r : List ℕ). set l m r) (sym (put_is_set 0 (get_or l m []) n v (omega arith))) ∙ sym (put_is_set [] l m (put 0 (get_or l m []) n v) (omega arith))
