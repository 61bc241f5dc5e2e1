-- What the code of a join and of a split needs to know, and the state that they leave.
use Rattle.std.proofs.Common.{◌≡◌, ◌≢◌, ℕ, ◌+◌, ◌^◌, ◌<◌, ◌≤◌, ◌⊎◌, ⊎_elim, List, length, set, sum_by, refl, sym, ap, ◌∙◌, subst, arith, length-set}
use mathlib.Core.Option.{some}
use lib.ListN.{get_elem?}
use Rattle.quiet_core.specs.Account.{Shape, managers, Account, blank, account, posts, acks, collects}
use Rattle.quiet_core.specs.Step.{State, word, issued_at, united, joined, kept_part, new_part, split}
use Rattle.quiet_core.specs.Noted.{RoomyBoth}
use Rattle.quiet_core.specs.Clear.{Clear}
use Rattle.quiet_core.specs.Balance.{Balance}
use Rattle.quiet_core.proofs.Sums.{le_sums, le_below}
use Rattle.quiet_core.proofs.Blank.{posts_none, acks_none, collects_none}
use Rattle.quiet_core.proofs.Acks.{pair_acked}
use Rattle.quiet_core.proofs.Parting.{join_keeps}
use Rattle.quiet_core.proofs.Splitting.{split_keeps}
use Rattle.quiet_core.proofs.Moves.{bare}
use Rattle.quiet_core.proofs.Allowed.{sits}

module _ (t : Shape) (s : State) (h g : ℕ) (w : Balance t s) (lh : h < length s.accounts) (lg : g < length s.accounts) (ne : g ≢ h) where
  abbrev a : Account
  a = account s.accounts h

  abbrev c : Account
  c = account s.accounts g

  at : get_elem? s.accounts h ≡ some (account s.accounts h)
  at = sits s.accounts h lh

  at' : get_elem? s.accounts g ≡ some (account s.accounts g)
  at' = sits s.accounts g lg

  clear_a : Clear t a
  clear_a = w.clear h a at

  clear_c : Clear t c
  clear_c = w.clear g c at'

  both_few : (f : Account → ℕ) → f (blank t) ≡ 0 → f a + f c ≤ sum_by f s.accounts
  both_few f z = le_sums f s.accounts h g a c (blank t) at ne at' z

  issued_few : (m n : ℕ) → m < managers t → n < managers t → word s (issued_at t m n) ≤ 1024000000
  issued_few m n lm ln = let l = le_below (λ k. word s (issued_at t m k)) (managers t) n ln in let e = (w.units m lm).letters in let f = w.sized.few_scheduled m lm in omega arith

  posted_fit : (m n : ℕ) → m < managers t → n < managers t → posts a m n + posts c m n < 2 ^ 64
  posted_fit m n lm ln = let e = (w.letters m n lm ln).all_posted in let l = both_few (λ (y : Account). posts y m n) (posts_none t m n) in let z = issued_few m n lm ln in omega arith

  acked_fit : (m n : ℕ) → m < managers t → n < managers t → acks a m n + acks c m n < 2 ^ 64
  acked_fit m n lm ln = let e = pair_acked t s w m n lm ln in let l = both_few (λ (y : Account). acks y m n) (acks_none t m n) in let z = issued_few m n lm ln in omega arith

  collected_fit : (n : ℕ) → n < managers t → collects a n + collects c n < 2 ^ 64
  collected_fit n ln = let v = w.collectors n ln in let e = v.collector in let o = v.one_collector in let l = both_few (λ (y : Account). collects y n) (collects_none t n) in omega arith

  -- the sum of two numbers, past the managers or not
  sum_either : {P : Type 0} (x y : ℕ) → (x ≡ 0) ⊎ P → (y ≡ 0) ⊎ P → (P → x + y < 2 ^ 64) → x + y < 2 ^ 64
  sum_either x y u v in_ = ⊎_elim (λ zx. ⊎_elim (λ zy. omega arith) in_ v) in_ u

  pub roomy_both : RoomyBoth a c
  roomy_both = record {
    weight = let l = both_few (λ (y : Account). y.weight) refl in let e = w.weights.whole in let f = w.sized.few_hands in omega arith;
    posted = λ m n _ _. sum_either (posts a m n) (posts c m n) (clear_a.posted m n) (clear_c.posted m n) (λ i. posted_fit m n i.0 i.1);
    collected = λ n _. sum_either (collects a n) (collects c n) (clear_a.collected n) (clear_c.collected n) (λ i. collected_fit n i);
    acked = λ m n _ _. sum_either (acks a m n) (acks c m n) (clear_a.acked m n) (clear_c.acked m n) (λ i. acked_fit m n i.0 i.1);
  }

  module _ (sched : List ℕ) (same : sched ≡ t.sched) (ys : List Account) where
    module _ (is : ys ≡ set (set s.accounts h (united a c)) g (blank (bare sched))) (some_weight : 1 ≤ a.weight) where
      pub joined_is : record { words = s.words; accounts = ys } ≡ joined t h a g c s
      joined_is = ap (λ (z : List Account). record s { accounts = z }) (is ∙ ap (λ (l : List ℕ). set (set s.accounts h (united a c)) g (blank (bare l))) same)

      pub joined_kept : Balance t record { words = s.words; accounts = ys }
      joined_kept = subst (Balance t) (sym joined_is) (join_keeps t s h g a c w at ne at' some_weight)

      pub joined_hands : length ys ≡ length s.accounts
      joined_hands = ap length is ∙ length-set (set s.accounts h (united a c)) g (blank (bare sched)) ∙ length-set s.accounts h (united a c)

    module _ (is : ys ≡ set (set s.accounts h (kept_part a)) g (new_part (bare sched) a)) (two : 2 ≤ a.weight) (none : c.weight ≡ 0) where
      is_blank : c ≡ blank t
      is_blank = w.weights.spent g c at' none

      pub split_is : record { words = s.words; accounts = ys } ≡ split t h a g s
      split_is = ap (λ (z : List Account). record s { accounts = z }) (is ∙ ap (λ (l : List ℕ). set (set s.accounts h (kept_part a)) g (new_part (bare l) a)) same)

      pub split_kept : Balance t record { words = s.words; accounts = ys }
      split_kept = subst (Balance t) (sym split_is) (split_keeps t s h g a w at ne (at' ∙ ap some is_blank) two)

      pub split_hands : length ys ≡ length s.accounts
      split_hands = ap length is ∙ length-set (set s.accounts h (kept_part a)) g (new_part (bare sched) a) ∙ length-set s.accounts h (kept_part a)

    pub empty_is : c.weight ≡ 0 → c ≡ blank (bare sched)
    empty_is none = w.weights.spent g c at' none ∙ ap (λ (l : List ℕ). blank (bare l)) (sym same)
