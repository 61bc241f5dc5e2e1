-- A deed that may be done, in a state that has the balance: its word is there, no number leaves its range, and what it enters is no other hand's.
use Rattle.std.proofs.Common.{◌≡◌, ℕ, zero, suc, ◌+◌, ◌^◌, ◌<◌, ◌≤◌, List, [], ◌∷◌, length, sum_by, refl, ap, arith, max}
use mathlib.Core.Option.{some}
use mathlib.Core.Logic.{dite}
use native.Mathlib.Decide.{dec_lt}
use lib.ListN.{get_elem?}
use Rattle.quiet_core.specs.declared.deed.Deed.{Deed}
use Rattle.quiet_core.specs.declared.deed.Deed.TheVariants as deed
use Rattle.quiet_core.specs.Account.{Shape, managers, scheduled, Account, blank, account, mark, posts, knows, acks, entered, opened}
use Rattle.quiet_core.specs.Step.{State, word, claim_at, issued_at, place, word_count, May}
use Rattle.quiet_core.specs.Noted.{Within, Roomy}
use Rattle.quiet_core.specs.Entries.{Alone, Enters}
use Rattle.quiet_core.specs.Balance.{Balance}
use Rattle.quiet_core.proofs.Sums.{le_sum, le_sums, le_below, pair_below}
use Rattle.quiet_core.proofs.Untouched.{nothing}
use Rattle.quiet_core.proofs.Blank.{mark_none}
use Rattle.quiet_core.proofs.Acks.{entered_one, open_in, one_left}
use Rattle.quiet_core.proofs.AckKeeps.{enough}
use Rattle.quiet_core.proofs.ClaimKeeps.{claim_fits}
use Rattle.quiet_core.proofs.RaiseKeeps.{raise_fits}
use Rattle.quiet_core.proofs.PostKeeps.{post_fits}
use Rattle.quiet_core.proofs.ClimbKeeps.{inside, some_kids}

pub sits : (xs : List Account) (h : ℕ) → h < length xs → get_elem? xs h ≡ some (account xs h)
sits [] h l = absurd (omega arith)
sits (x ∷ xs) zero l = refl
sits (x ∷ xs) (suc h) l = sits xs h (omega arith)

module _ (t : Shape) (s : State) (h : ℕ) (w : Balance t s) (lh : h < length s.accounts) where
  abbrev a : Account
  a = account s.accounts h

  at : get_elem? s.accounts h ≡ some (account s.accounts h)
  at = sits s.accounts h lh

  pub within : (d : Deed) → May t d a → Within t d
  within (deed.Claim m) may = may.0
  within (deed.Raise m i n) may = may.0
  within (deed.Post m i to n) may = (may.0, may.1)
  within (deed.Done m i) may = may.0
  within (deed.Collect n) may = may.0
  within (deed.Look m n) may = (may.0, may.1)
  within (deed.Ack m n k) may = (may.0, may.1)
  within (deed.Climb c) may = inside t s h a c w at may

  -- the word of a deed is one of the round's
  pub place_in : (d : Deed) → May t d a → place t d < word_count t
  place_in (deed.Claim m) may = let l = may.0 in omega arith
  place_in (deed.Raise m i n) may = let l = may.0 in let f = w.sized.leaves_first in omega arith
  place_in (deed.Post m i to n) may = let l = pair_below (managers t) m to may.0 may.1 in omega arith
  place_in (deed.Done m i) may = let l = may.0 in let f = w.sized.leaves_first in omega arith
  place_in (deed.Collect n) may = let l = may.0 in omega arith
  place_in (deed.Look m n) may = let l = pair_below (managers t) m n may.0 may.1 in omega arith
  place_in (deed.Ack m n k) may = let l = may.0 in let f = w.sized.leaves_first in omega arith
  place_in (deed.Climb c) may = let l = w.sized.parents_below c (inside t s h a c w at may) in omega arith

  posted_few : (m n : ℕ) → m < managers t → n < managers t → posts a m n ≤ word s (issued_at t m n)
  posted_few m n lm ln = let e = (w.letters m n lm ln).all_posted in let l = le_sum (λ (y : Account). posts y m n) s.accounts h a at in omega arith

  issued_few : (m n : ℕ) → m < managers t → n < managers t → word s (issued_at t m n) ≤ 1024000000
  issued_few m n lm ln = let l = le_below (λ k. word s (issued_at t m k)) (managers t) n ln in let e = (w.units m lm).letters in let f = w.sized.few_scheduled m lm in omega arith

  acked_few : (m n k : ℕ) → m < managers t → n < managers t → acks a m n + k ≤ max (knows a m n) (posts a m n) → acks a m n + k < 2 ^ 64
  acked_few m n k lm ln l = let x = (w.letters m n lm ln).known h a at in let y = posted_few m n lm ln in let z = issued_few m n lm ln in omega arith

  pub roomy : (d : Deed) → May t d a → Roomy d (word s (place t d)) a
  roomy (deed.Claim m) may = claim_fits t s h a m w at may
  roomy (deed.Raise m i n) may = raise_fits t s h a m i n w at may
  roomy (deed.Post m i to n) may = (post_fits t s h a m i to n w at may, posted_few m to may.0 may.1)
  roomy (deed.Done m i) may = one_left t s w h a at m i may.0 may.2
  roomy (deed.Collect n) may = tt
  roomy (deed.Look m n) may = tt
  roomy (deed.Ack m n k) may = (enough t s h a m n k w at may, acked_few m n k may.0 may.1 may.5)
  roomy (deed.Climb c) may = some_kids t s h a c w at may

  -- a number that nobody has entered, or this hand alone
  entered_few : (m i : ℕ) → m < managers t → sum_by (λ (y : Account). entered (mark y m i)) s.accounts ≤ 1
  entered_few m i lm = let c = w.claims m lm in dite (dec_lt i (word s (claim_at t m)))
      (λ x. dite (dec_lt i (scheduled t m)) (λ y. let e = c.once i x y in omega arith) (λ n. let e = c.beyond i (omega arith) in omega arith)) (λ n. let e = c.later i (omega arith) in omega arith)

  unclaimed_alone : (m i : ℕ) → m < managers t → i < scheduled t m → word s (claim_at t m) ≤ i → Alone t s.accounts h m i
  unclaimed_alone m i lm li past = record {
    manager = lm;
    inside = li;
    others = λ g lg ne. nothing (mark (account s.accounts g) m i) (let z = (w.claims m lm).later i past in let l = le_sum (λ (y : Account). entered (mark y m i)) s.accounts g (account s.accounts g) (sits s.accounts g lg) in omega arith);
  }

  open_alone : (m i : ℕ) → m < managers t → opened (mark a m i) ≡ 1 → Alone t s.accounts h m i
  open_alone m i lm o = record {
    manager = lm;
    inside = open_in t s w h a at m i lm o;
    others = λ g lg ne. nothing (mark (account s.accounts g) m i) (let few = entered_few m i lm in let one = entered_one (mark a m i) o in
        let l = le_sums (λ (y : Account). entered (mark y m i)) s.accounts h g a (account s.accounts g) (blank t) at ne (sits s.accounts g lg) (ap entered (mark_none t m i)) in omega arith);
  }

  pub enters : (d : Deed) → May t d a → Enters t d (word s (place t d)) s.accounts h
  enters (deed.Claim m) may = (may.0, λ l. unclaimed_alone m (word s (claim_at t m)) may.0 l (omega arith))
  enters (deed.Raise m i n) may = open_alone m i may.0 (ap opened may.2)
  enters (deed.Post m i to n) may = (open_alone m i may.0 may.3, may.5)
  enters (deed.Done m i) may = open_alone m i may.0 may.2
  enters (deed.Collect n) may = tt
  enters (deed.Look m n) may = tt
  enters (deed.Ack m n k) may = tt
  enters (deed.Climb c) may = tt
