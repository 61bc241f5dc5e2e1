-- One more step of a loop that writes each element in its place.
use Rattle.std.proofs.Common.{◌≡◌, ℕ, suc, zero, ◌<◌, List, [], ◌∷◌, length, take, drop, map, get_or, slice_set, refl, ap, arith}

pub one_more : {X Y S : Type 0} (f : X → Y) (h : S → Y) (xs : List X) (ss : List S) (m : ℕ) (y : X) (d : S) → m < length xs → length xs ≡ length ss
    → map f (take m xs) ≡ map h (take m ss) → f y ≡ h (get_or ss m d) → map f (take (suc m) (slice_set xs m y)) ≡ map h (take (suc m) ss)
one_more f h [] ss m y d lt same i e = absurd (omega arith)
one_more f h (x ∷ xs) [] m y d lt same i e = absurd (omega arith)
one_more f h (x ∷ xs) (s ∷ ss) zero y d lt same i e = ap (λ z. z ∷ []) e
one_more f h (x ∷ xs) (s ∷ ss) (suc m) y d lt same i e =
    let first : f x ≡ h s = cc in
    let others : map f (take m xs) ≡ map h (take m ss) = cc in
    let deeper = one_more f h xs ss m y d (omega arith) (omega arith) others e in
    cc

pub one_more_plain : {X S : Type 0} (h : S → X) (xs : List X) (ss : List S) (m : ℕ) (y : X) (d : S) → m < length xs → length xs ≡ length ss
    → take m xs ≡ map h (take m ss) → y ≡ h (get_or ss m d) → take (suc m) (slice_set xs m y) ≡ map h (take (suc m) ss)
one_more_plain h [] ss m y d lt same i e = absurd (omega arith)
one_more_plain h (x ∷ xs) [] m y d lt same i e = absurd (omega arith)
one_more_plain h (x ∷ xs) (s ∷ ss) zero y d lt same i e = ap (λ z. z ∷ []) e
one_more_plain h (x ∷ xs) (s ∷ ss) (suc m) y d lt same i e =
    let first : x ≡ h s = cc in
    let others : take m xs ≡ map h (take m ss) = cc in
    let deeper = one_more_plain h xs ss m y d (omega arith) (omega arith) others e in
    cc

pub rest_more : {X : Type 0} (xs ys : List X) (m : ℕ) (y : X) → length xs ≡ length ys → drop m xs ≡ drop m ys
    → drop (suc m) (slice_set xs m y) ≡ drop (suc m) ys
rest_more [] [] m y same e = refl
rest_more [] (z ∷ ys) m y same e = absurd (omega arith)
rest_more (x ∷ xs) [] m y same e = absurd (omega arith)
rest_more (x ∷ xs) (z ∷ ys) zero y same e = ap (drop 1) e
rest_more (x ∷ xs) (z ∷ ys) (suc m) y same e = rest_more xs ys m y (omega arith) e

pub here : {X : Type 0} (xs ys : List X) (m : ℕ) (d : X) → length xs ≡ length ys → drop m xs ≡ drop m ys → get_or xs m d ≡ get_or ys m d
here [] [] m d same e = refl
here [] (z ∷ ys) m d same e = absurd (omega arith)
here (x ∷ xs) [] m d same e = absurd (omega arith)
here (x ∷ xs) (z ∷ ys) zero d same e = ap (λ l. get_or l 0 d) e
here (x ∷ xs) (z ∷ ys) (suc m) d same e = here xs ys m d (omega arith) e
