-- What the code of a deed needs to know, and the state that it leaves.
use Rattle.std.proofs.Common.{◌≡◌, ℕ, ◌+◌, ◌^◌, ◌<◌, ◌≤◌, List, length, get_or, set, sym, ap, ◌∙◌, subst, arith, length-set}
use Rattle.quiet_core.specs.declared.deed.Deed.{Deed}
use Rattle.quiet_core.specs.Account.{Shape, Account, account}
use Rattle.quiet_core.specs.Step.{State, word, place, change, changed, up, down, after, May, acted}
use Rattle.quiet_core.specs.Noted.{Roomy}
use Rattle.quiet_core.specs.Entries.{Enters}
use Rattle.quiet_core.specs.Balance.{Balance}
use Rattle.quiet_core.proofs.Books.{get_or-any}
use Rattle.quiet_core.proofs.Allowed.{sits, place_in, roomy, enters}
use Rattle.quiet_core.proofs.Keeps.{keeps, up_fits, down_fits}

module _ (t : Shape) (s : State) (h : ℕ) (d : Deed) (p : ℕ) (w : Balance t s) (lh : h < length s.accounts) (may : May t d (account s.accounts h)) (is : p ≡ place t d) where
  abbrev a : Account
  a = account s.accounts h

  pub in_words : p < length s.words
  in_words = let l = place_in t s h w lh d may in let e = w.wide in omega arith

  module _ (x : ℕ) (reads : x ≡ get_or s.words p x) where
    pub found_is : x ≡ word s (place t d)
    found_is = reads ∙ get_or-any s.words p x 0 in_words ∙ ap (λ (k : ℕ). word s k) is

    pub rises : (k : ℕ) → change d ≡ up k → x + k < 2 ^ 64
    rises k e = let l = up_fits t s h a w (sits s.accounts h lh) d k may e in let f = found_is in omega arith

    pub falls : (k : ℕ) → change d ≡ down k → k ≤ x
    falls k e = let l = down_fits t s h a w (sits s.accounts h lh) d k may e in let f = found_is in omega arith

    pub has_room : Roomy d x a
    has_room = subst (λ (k : ℕ). Roomy d k a) (sym found_is) (roomy t s h w lh d may)

    pub may_enter : Enters t d x s.accounts h
    may_enter = subst (λ (k : ℕ). Enters t d k s.accounts h) (sym found_is) (enters t s h w lh d may)

    module _ (y : ℕ) (ys : List Account) (becomes : y ≡ changed (change d) x) (acts : ys ≡ set s.accounts h (after t d x a)) where
      pub state_is : record { words = set s.words p y; accounts = ys } ≡ acted t h a d s
      state_is = let words : set s.words p y ≡ set s.words (place t d) (changed (change d) (word s (place t d))) =
          ap (λ (k : ℕ). set s.words k y) is ∙ ap (λ (v : ℕ). set s.words (place t d) v) (becomes ∙ ap (λ (k : ℕ). changed (change d) k) found_is) in
          let accounts : ys ≡ set s.accounts h (after t d (word s (place t d)) a) = acts ∙ ap (λ (k : ℕ). set s.accounts h (after t d k a)) found_is in
          λ i. record { words = words i; accounts = accounts i }

      pub state_kept : Balance t record { words = set s.words p y; accounts = ys }
      state_kept = subst (Balance t) (sym state_is) (keeps t s h a w (sits s.accounts h lh) d may)

      pub hands_same : length ys ≡ length s.accounts
      hands_same = ap length acts ∙ length-set s.accounts h (after t d x a)
