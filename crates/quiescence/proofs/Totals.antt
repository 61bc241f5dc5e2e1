-- Sums of rows of words, as sums below a number.
use Rattle.std.proofs.Common.{◌≡◌, ℕ, zero, suc, ◌+◌, ◌*◌, ◌<◌, List, [], ◌∷◌, length, get_or, sum, sym, refl, ap, ◌∙◌, arith, add-zero, zero-mul, suc-mul}
use Rattle.std.proofs.lemmas.List.Sums.{sum_by-cons}
use mathlib.Core.Option.{some, some-injective}
use lib.ListN.{get_elem?}
use Rattle.quiet_core.specs.Rows.{below}

below_front : (f : ℕ → ℕ) (n : ℕ) → below f (suc n) ≡ f 0 + below (λ i. f (suc i)) n
below_front f zero = refl
below_front f (suc n) = let r = below_front f n in omega arith

sum_of : (x : ℕ) (xs : List ℕ) → sum (x ∷ xs) ≡ x + sum xs
sum_of x xs = sum_by-cons (λ (n : ℕ). n) x xs

-- a row
pub sum_is_below : (l : List ℕ) → sum l ≡ below (λ i. get_or l i 0) (length l)
sum_is_below [] = refl
sum_is_below (x ∷ xs) =
    let r = sum_is_below xs in
    let s : sum (x ∷ xs) ≡ x + sum xs = sum_of x xs in
    let f : below (λ i. get_or (x ∷ xs) i 0) (suc (length xs))
    ≡ x + below (λ i. get_or xs i 0) (length xs) = below_front (λ i. get_or (x ∷ xs) i 0) (length xs) in
    s ∙ ap (λ (k : ℕ). x + k) r ∙ sym f

below_plus : (f : ℕ → ℕ) (m n : ℕ) → below f (m + n) ≡ below f m + below (λ j. f (m + j)) n
below_plus f m zero = ap (below f) (add-zero m) ∙ sym (add-zero (below f m))
below_plus f m (suc n) = let r = below_plus f m n in let q : m + suc n ≡ suc (m + n) = omega arith in let e : below f (m + suc n) ≡ below f (suc (m + n)) = ap (below f) q in omega arith

-- rows of w, one after the other
pub below_rows : (f : ℕ → ℕ) (w n : ℕ) → below f (n * w) ≡ below (λ m. below (λ j. f (m * w + j)) w) n
below_rows f w zero = ap (below f) (zero-mul w)
below_rows f w (suc n) =
    let r = below_rows f w n in
    let p = below_plus f (n * w) w in
    let e : below f (suc n * w) ≡ below f (n * w + w) = (let q : suc n * w ≡ n * w + w = (let u = suc-mul n w in omega arith) in ap (below f) q) in
    omega arith

-- two rows that are alike
pub same_rows : (l r : List ℕ) → length r ≡ length l → ((k : ℕ) → k < length l → get_elem? r k ≡ some (get_or l k 0)) → r ≡ l
same_rows [] [] e h = refl
same_rows [] (y ∷ ys) e h = absurd (omega arith)
same_rows (x ∷ xs) [] e h = absurd (omega arith)
same_rows (x ∷ xs) (y ∷ ys) e h = let is : y ≡ x = some-injective y x (h 0 (omega arith)) in let r = same_rows xs ys (omega arith) (λ k l. h (suc k) (omega arith)) in λ i. is i ∷ r i
