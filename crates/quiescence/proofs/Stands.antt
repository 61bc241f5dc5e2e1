-- Where an account stands in a round, so does what becomes of it.
use Rattle.std.proofs.Common.{◌≡◌, ℕ, zero, suc, ◌-◌, ◌≤◌, List, [], ◌∷◌, ◌++◌, length, set, sym, refl, ap, ◌∙◌, subst, arith}
use mathlib.Core.Option.{some, some-ne-none}
use lib.ListN.{get_elem?}
use Rattle.quiet_core.specs.Account.{Shape, Account, blank}
use Rattle.quiet_core.specs.declared.deed.Deed.{Deed}
use Rattle.quiet_core.specs.Step.{State, word, place, after, May, acted, kept_part, new_part, grown}
use Rattle.quiet_core.specs.Balance.{Balance}
use Rattle.quiet_core.proofs.Keeps.{keeps}
use Rattle.quiet_core.proofs.Sums.{at_before, at_longer, at_end, grown_set}
use Rattle.quiet_core.proofs.Splitting.{grown_keeps, split_keeps, opening_keeps}
use Rattle.quiescence.specs.Rule.{Stands, Did}

pub at_set_here : {A : Type 0} (l : List A) (i : ℕ) (a b : A) → get_elem? l i ≡ some a → get_elem? (set l i b) i ≡ some b
at_set_here [] i a b e = absurd (some-ne-none a (sym e))
at_set_here (x ∷ xs) zero a b e = refl
at_set_here (x ∷ xs) (suc i) a b e = at_set_here xs i a b e

-- after a deed
pub stands_after : (t : Shape) (d : Deed) (a : Account) (x : ℕ) (a' : Account) → May t d a → Did t d a x a' → Stands t a'
stands_after t d a x a' may did =
    let s = did.before in
    let is : a' ≡ after t d (word s.state (place t d)) a = did.account ∙ ap (λ (n : ℕ). after t d n a) (sym did.found) in
    record {
      state = acted t s.hand a d s.state;
      hand = s.hand;
      kept = keeps t s.state s.hand a s.kept s.sits d may;
      sits = at_set_here s.state.accounts s.hand a _ s.sits ∙ ap (λ (b : Account). some b) (sym is);
    }

module _ (t : Shape) (s : State) (h : ℕ) (a : Account) (kept : Balance t s) (at : get_elem? s.accounts h ≡ some a) (two : 2 ≤ a.weight) where
  -- the accounts, where a is split in two
  pub parted : Balance t record { words = s.words; accounts = set s.accounts h (kept_part a) ++ new_part t a ∷ [] }
  parted = let lt = at_before s.accounts h a at in let w = grown_keeps t s kept in
      subst (λ (z : List Account). Balance t record { words = s.words; accounts = z }) (grown_set s.accounts h (kept_part a) (new_part t a) (blank t) lt)
      (split_keeps t (grown t s) h (length s.accounts) a w (at_longer s.accounts (blank t ∷ []) h a at) (λ e. omega arith) (at_end s.accounts (blank t)) two)

  -- the accounts, where one that has nothing but weight is split in two
  pub dealt : a ≡ record (blank t) { weight = a.weight } → Balance t record { words = s.words; accounts = set s.accounts h (record (blank t) { weight = a.weight - 1 }) ++ record (blank t) { weight = 1 } ∷ [] }
  dealt is = let lt = at_before s.accounts h a at in let w = grown_keeps t s kept in
      subst (λ (z : List Account). Balance t record { words = s.words; accounts = z }) (grown_set s.accounts h (record (blank t) { weight = a.weight - 1 }) (record (blank t) { weight = 1 }) (blank t) lt)
      (opening_keeps t (grown t s) h (length s.accounts) a w (at_longer s.accounts (blank t ∷ []) h a at) (λ e. omega arith) (at_end s.accounts (blank t)) two is)

module _ (t : Shape) (a : Account) (s : Stands t a) (two : 2 ≤ a.weight) where
  left_part : (b c : Account) → Balance t record { words = s.state.words; accounts = set s.state.accounts s.hand b ++ c ∷ [] } → Stands t b
  left_part b c w = record {
    state = record { words = s.state.words; accounts = set s.state.accounts s.hand b ++ c ∷ [] };
    hand = s.hand;
    kept = w;
    sits = at_longer (set s.state.accounts s.hand b) (c ∷ []) s.hand b (at_set_here s.state.accounts s.hand a b s.sits);
  }

  right_part : (b c : Account) → Balance t record { words = s.state.words; accounts = set s.state.accounts s.hand b ++ c ∷ [] } → Stands t c
  right_part b c w = record {
    state = record { words = s.state.words; accounts = set s.state.accounts s.hand b ++ c ∷ [] };
    hand = length (set s.state.accounts s.hand b);
    kept = w;
    sits = at_end (set s.state.accounts s.hand b) c;
  }

  -- after a split
  pub kept_stands : Stands t (kept_part a)
  kept_stands = left_part (kept_part a) (new_part t a) (parted t s.state s.hand a s.kept s.sits two)

  pub new_stands : Stands t (new_part t a)
  new_stands = right_part (kept_part a) (new_part t a) (parted t s.state s.hand a s.kept s.sits two)

  -- after a split of an account that has nothing but weight
  pub less_stands : a ≡ record (blank t) { weight = a.weight } → Stands t record (blank t) { weight = a.weight - 1 }
  less_stands is = left_part (record (blank t) { weight = a.weight - 1 }) (record (blank t) { weight = 1 }) (dealt t s.state s.hand a s.kept s.sits two is)

  pub one_stands : a ≡ record (blank t) { weight = a.weight } → Stands t record (blank t) { weight = 1 }
  one_stands is = right_part (record (blank t) { weight = a.weight - 1 }) (record (blank t) { weight = 1 }) (dealt t s.state s.hand a s.kept s.sits two is)
