-- A tree has 1 to 16 leaves and a fan-out of 2 to 8: what computes is computed at each.
use Rattle.std.proofs.Common.{◌≡◌, ℕ, zero, suc, ◌+◌, ◌<◌, ◌≤◌, Bool, true, false, ◌&&◌, inl, inr, refl, arith}
use Rattle.std.specs.List.{list_all, range_with_len}
use Rattle.std.proofs.lemmas.Bool.{cases_lt}

pub record InLimits (leaves fanout : ℕ) : Type 0 where
  pub least_leaves : 1 ≤ leaves
  pub most_leaves : leaves ≤ 16
  pub least_fanout : 2 ≤ fanout
  pub most_fanout : fanout ≤ 8

abbrev pub passes_in_limits : (ℕ → ℕ → Bool) → Bool
passes_in_limits test = list_all (λ leaves. list_all (test leaves) (range_with_len 2 7)) (range_with_len 1 16)

-- a test passes at each of a thing's numbers below this one
abbrev pub passes_below : {T : Type 0} (test : T → ℕ → Bool) (end : T → ℕ) → T → Bool
passes_below test end thing = list_all (test thing) (range_with_len 0 (end thing))

both : (a b : Bool) → (a && b) ≡ true → (a ≡ true) × (b ≡ true)
both true b h = (refl, h)
both false b h = absurd cc

each : (test : ℕ → Bool) (start count number : ℕ) → list_all test (range_with_len start count) ≡ true → start ≤ number → number < start + count
    → test number ≡ true
each test start zero number passed least most = absurd (omega arith)
each test start (suc count) number passed least most =
    let parts = both (test start) (list_all test (range_with_len (start + 1) count)) passed in
    elim (cases_lt start number) [
      | inl above ↦ each test (start + 1) count number parts.1 (omega arith) (omega arith)
      | inr at ↦ let same : start ≡ number = omega arith in rw (← same) parts.0
    ]

pub at_limits : (test : ℕ → ℕ → Bool) → passes_in_limits test ≡ true → (leaves fanout : ℕ) → InLimits leaves fanout → test leaves fanout ≡ true
at_limits test passed leaves fanout within =
    each (test leaves) 2 7 fanout
    (each (λ n. list_all (test n) (range_with_len 2 7)) 1 16 leaves passed within.least_leaves (omega (arith, within.most_leaves)))
    within.least_fanout (omega (arith, within.most_fanout))

pub at_number : {T : Type 0} (make : ℕ → ℕ → T) (test : T → ℕ → Bool) (end : T → ℕ)
    → passes_in_limits (λ leaves fanout. passes_below test end (make leaves fanout)) ≡ true
    → (leaves fanout : ℕ) → InLimits leaves fanout → (number : ℕ) → number < end (make leaves fanout) → test (make leaves fanout) number ≡ true
at_number make test end passed leaves fanout within number below =
    each (test (make leaves fanout)) 0 (end (make leaves fanout)) number
    (at_limits (λ l f. passes_below test end (make l f)) passed leaves fanout within) (omega arith) (omega (arith, below))
