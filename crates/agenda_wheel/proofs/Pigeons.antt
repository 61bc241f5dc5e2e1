-- So many different numbers below m are at most m.
use Rattle.std.proofs.Common.{◌≡◌, ◌≢◌, ℕ, zero, suc, ◌<◌, ◌≤◌, true, false, cond, nat_eq, refl, sym, ◌∙◌, inl, inr, arith}
use Rattle.std.proofs.lemmas.Bool.{cases_eq}
use Rattle.std.proofs.lemmas.Bool.Decides.{nat_tests}

-- the last number stands in for m
swapped : (ℕ → ℕ) → ℕ → ℕ → ℕ → ℕ
swapped f m n i = cond (nat_eq (f i) m) (f n) (f i)

swapped_same : (f : ℕ → ℕ) (m n i : ℕ) → f i ≡ m → swapped f m n i ≡ f n
unfolding swapped
swapped_same f m n i e = let t : nat_eq (f i) m ≡ true = grind (arith, nat_tests) in rw t refl

swapped_other : (f : ℕ → ℕ) (m n i : ℕ) → f i ≢ m → swapped f m n i ≡ f i
unfolding swapped
swapped_other f m n i e = let t : nat_eq (f i) m ≡ false = grind (arith, nat_tests) in rw t refl

pub fits : (m n : ℕ) (f : ℕ → ℕ) → ((i j : ℕ) → i < n → j < n → f i ≡ f j → i ≡ j) → ((i : ℕ) → i < n → f i < m) → n ≤ m
fits m zero f one below = omega arith
fits zero (suc n) f one below = let b = below zero (omega arith) in absurd (omega (arith, b))
fits (suc m) (suc n) f one below =
    let last : n < suc n = omega arith in
    let up : (i : ℕ) → i < n → i < suc n = λ i h. omega arith in
    let apart : (i : ℕ) → i < n → f i ≢ f n = λ i h e. let k = one i n (up i h) last e in omega (arith, k, h) in
    let h = fits m n (swapped f m n)
    (λ i j p q e. elim (cases_eq (f i) m) [
      | inl a ↦ elim (cases_eq (f j) m) [
        | inl b ↦ one i j (up i p) (up j q) (a ∙ sym b)
        | inr b ↦ absurd (apart j q (sym (swapped_other f m n j b) ∙ sym e ∙ swapped_same f m n i a))
      ]
      | inr a ↦ elim (cases_eq (f j) m) [
        | inl b ↦ absurd (apart i p (sym (swapped_other f m n i a) ∙ e ∙ swapped_same f m n j b))
        | inr b ↦ one i j (up i p) (up j q) (sym (swapped_other f m n i a) ∙ e ∙ swapped_other f m n j b)
      ]
    ])
    (λ i p. elim (cases_eq (f i) m) [
      | inl a ↦
          let b = below n last in
          let ne : f n ≢ m = λ z. apart i p (a ∙ sym z) in
          let s = swapped_same f m n i a in
          omega (arith, b, ne, s)
      | inr a ↦
          let b = below i (up i p) in
          let s = swapped_other f m n i a in
          omega (arith, b, a, s)
    ]) in
    omega (arith, h)
