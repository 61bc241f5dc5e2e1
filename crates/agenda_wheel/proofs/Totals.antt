-- Sums over lists, and ascending lists of numbers, which are fixed by how often each number stands in them.
use Rattle.std.proofs.Common.{◌≡◌, ℕ, zero, suc, ◌+◌, ◌-◌, ◌<◌, ◌≤◌, Bool, true, false, cond, nat_eq, List, [], ◌∷◌, ◌++◌, map, length}
use Rattle.std.proofs.Common.{get_or, sum_by, refl, sym, ap, ◌∙◌, inl, inr, arith}
use Rattle.std.specs.List.{filter}
use Rattle.std.specs.List.Sorted.{IsPermutation}
use Rattle.std.proofs.lemmas.Bool.{cases_eq}
use Rattle.std.proofs.lemmas.Bool.Decides.{nat_tests}
use Rattle.std.proofs.lemmas.List.Sums.{sum_by-cons}
use Rattle.std.proofs.lemmas.List.Sorted.{sum_by-IsPermutation}

abbrev pub total : {X : Type 0} → (X → ℕ) → List X → ℕ
total g [] = 0
total g (x ∷ xs) = g x + total g xs

total_is : {X : Type 0} (g : X → ℕ) (xs : List X) → sum_by g xs ≡ total g xs
total_is g [] = refl
total_is g (x ∷ xs) = sum_by-cons g x xs ∙ ap (λ k. g x + k) (total_is g xs)

pub total_append : {X : Type 0} (g : X → ℕ) (xs ys : List X) → total g (xs ++ ys) ≡ total g xs + total g ys
total_append g [] ys = omega arith
total_append g (x ∷ xs) ys = let h = total_append g xs ys in omega (arith, h)

pub total_map : {X Y : Type 0} (g : Y → ℕ) (f : X → Y) (xs : List X) → total g (map f xs) ≡ total (λ x. g (f x)) xs
total_map g f [] = refl
total_map g f (x ∷ xs) = ap (λ k. g (f x) + k) (total_map g f xs)

pub total_permuted : {X : Type 0} (g : X → ℕ) (xs ys : List X) → IsPermutation xs ys → total g ys ≡ total g xs
total_permuted g xs ys p = sym (total_is g ys) ∙ sum_by-IsPermutation g xs ys p ∙ total_is g xs

-- how many pass
pub length_filter : {X : Type 0} (p : X → Bool) (xs : List X) → length (filter p xs) ≡ total (λ x. cond (p x) 1 0) xs
length_filter p [] = refl
length_filter {X} p (x ∷ xs) = told (p x) (length_filter p xs)
  where
    told : (b : Bool) → length (filter p xs) ≡ total (λ (y : X). cond (p y) 1 0) xs
        → length (cond b (x ∷ filter p xs) (filter p xs)) ≡ cond b 1 0 + total (λ (y : X). cond (p y) 1 0) xs
    told true h = omega (arith, h)
    told false h = omega (arith, h)

-- ---- ascending lists of numbers

abbrev pub IsLow : ℕ → List ℕ → Type 0
IsLow a [] = Unit {0}
IsLow a (x ∷ xs) = (a ≤ x) × IsLow a xs

abbrev pub Ascends : List ℕ → Type 0
Ascends [] = Unit {0}
Ascends (x ∷ xs) = IsLow x xs × Ascends xs

abbrev pub is : ℕ → ℕ → ℕ
is k n = cond (nat_eq n k) 1 0

is_same : (k : ℕ) → is k k ≡ 1
is_same k = grind (arith, nat_tests)

is_other : (k n : ℕ) → k < n → is k n ≡ 0
is_other k n p = grind (arith, nat_tests)

none_low : (a k : ℕ) (xs : List ℕ) → IsLow a xs → k < a → total (is k) xs ≡ 0
none_low a k [] l p = refl
none_low a k (x ∷ xs) l p =
    let h = none_low a k xs l.1 p in
    let e = is_other k x (omega (arith, l.0, p)) in
    omega (arith, h, e)

too_low : (x y : ℕ) (xs ys : List ℕ) → IsLow y ys → x < y → total (is x) (x ∷ xs) ≡ total (is x) (y ∷ ys) → ⊥
too_low x y xs ys l p e =
    let a = is_same x in
    let b = is_other x y p in
    let c = none_low y x ys l p in
    omega (arith, a, b, c, e)

pub same_counts : (xs ys : List ℕ) → Ascends xs → Ascends ys → ((k : ℕ) → total (is k) xs ≡ total (is k) ys) → xs ≡ ys
same_counts [] [] a b h = refl
same_counts [] (y ∷ ys) a b h = let e = h y in let s = is_same y in absurd (omega (arith, e, s))
same_counts (x ∷ xs) [] a b h = let e = h x in let s = is_same x in absurd (omega (arith, e, s))
same_counts (x ∷ xs) (y ∷ ys) a b h =
    let e : x ≡ y =
    elim (cases_eq x y) [
      | inl same ↦ same
      | inr other ↦ elim (cases_eq (suc x - y) 0) [
        | inl less ↦ absurd (too_low x y xs ys b.0 (omega (arith, less)) (h x))
        | inr more ↦ absurd (too_low y x ys xs a.0 (omega (arith, more, other)) (sym (h y)))
      ]
    ] in
    let rest : (k : ℕ) → total (is k) xs ≡ total (is k) ys = λ k. let f = h k in let s = ap (is k) e in omega (arith, f, s) in
    ap (λ z. z ∷ xs) e ∙ ap (λ zs. y ∷ zs) (same_counts xs ys a.1 b.1 rest)

low_by : {X : Type 0} (n : X → ℕ) (a : ℕ) (xs : List X) → ((j : ℕ) (d : X) → j < length xs → a ≤ n (get_or xs j d)) → IsLow a (map n xs)
low_by n a [] h = tt
low_by n a (x ∷ xs) h = (h zero x (omega arith), low_by n a xs (λ j d p. h (suc j) d (omega (arith, p))))

-- what a sort leaves
pub ascends_by : {X : Type 0} (n : X → ℕ) (xs : List X) → ((i j : ℕ) (d : X) → i ≤ j → j < length xs → n (get_or xs i d) ≤ n (get_or xs j d))
    → Ascends (map n xs)
ascends_by n [] h = tt
ascends_by n (x ∷ xs) h = (
  low_by n (n x) xs (λ j d p. h zero (suc j) d (omega arith) (omega (arith, p))),
  ascends_by n xs (λ i j d p q. h (suc i) (suc j) d (omega (arith, p)) (omega (arith, q))),
)
