-- What a filter keeps of numbers in order.
use Rattle.std.proofs.Common.{◌≡◌, ℕ, zero, suc, ◌+◌, ◌<◌, ◌≤◌, Bool, true, false, cond, List, [], ◌∷◌, ◌⊎◌, inl, inr, refl, arith, subst}
use Rattle.std.specs.List.{Contains, filter, range_with_len}
use Rattle.std.proofs.lemmas.Bool.{cases_lt}
use Rattle.std.proofs.lemmas.List.Elements.{Contains-append_cases, Contains-append_left, Contains-append_right, Contains-push, Contains-push_cases}

none : {P : Type 0} (x : ℕ) → Contains [] x → P
none x h = absurd (omega (arith, h.1))

first_or_later : (y : ℕ) (ys : List ℕ) (x : ℕ) → Contains (y ∷ ys) x → (y ≡ x) ⊎ Contains ys x
first_or_later y ys x h = elim (Contains-append_cases (y ∷ []) ys x h) [
  | inl one ↦ elim (Contains-push_cases [] y x one) [ inl absent ↦ none x absent | inr same ↦ inl same ]
  | inr later ↦ inr later
]

-- the numbers of a range that pass
pub record IsKept (test : ℕ → Bool) (start count number : ℕ) : Type 0 where
  pub least : start ≤ number
  pub most : number < start + count
  pub passes : test number ≡ true

kept_step : (test : ℕ → Bool) (start count number : ℕ) (passed : Bool) → test start ≡ passed
    → Contains (cond passed (start ∷ filter test (range_with_len (start + 1) count)) (filter test (range_with_len (start + 1) count))) number
    → (test start ≡ true) × (start ≡ number) ⊎ Contains (filter test (range_with_len (start + 1) count)) number
kept_step test start count number true is h = elim (first_or_later _ _ _ h) [ inl same ↦ inl (is, same) | inr later ↦ inr later ]
kept_step test start count number false is h = inr h

pub kept : (test : ℕ → Bool) (start count number : ℕ) → Contains (filter test (range_with_len start count)) number → IsKept test start count number
kept test start zero number h = none number h
kept test start (suc count) number h = elim (kept_step test start count number (test start) refl h) [
  | inl here ↦ record { least = omega (arith, here); most = omega (arith, here); passes = subst (λ (k : ℕ). test k ≡ true) here.1 here.0 }
  | inr later ↦ (let k = kept test (start + 1) count number later in record { least = omega (arith, k.least); most = omega (arith, k.most); passes = k.passes })
]

keeps_later : (test : ℕ → Bool) (start count number : ℕ) (passed : Bool) → Contains (filter test (range_with_len (start + 1) count)) number
    → Contains (cond passed (start ∷ filter test (range_with_len (start + 1) count)) (filter test (range_with_len (start + 1) count))) number
keeps_later test start count number true h = Contains-append_right (start ∷ []) _ number h
keeps_later test start count number false h = h

pub keeps : (test : ℕ → Bool) (start count number : ℕ) → IsKept test start count number → Contains (filter test (range_with_len start count)) number
keeps test start zero number k = absurd (omega (arith, k.least, k.most))
keeps test start (suc count) number k = elim (cases_lt start number) [
  | inl above ↦ keeps_later test start count number (test start)
      (keeps test (start + 1) count number (record { least = omega arith; most = omega (arith, k.most); passes = k.passes }))
  | inr at ↦ (
      let same : start ≡ number = omega (arith, k.least) in
      let passes : test start ≡ true = rw same k.passes in
      let here : Contains (start ∷ filter test (range_with_len (start + 1) count)) start =
      Contains-append_left (start ∷ []) _ start (Contains-push [] start) in
      rw passes (subst (λ (k : ℕ). Contains (start ∷ filter test (range_with_len (start + 1) count)) k) same here))
]
