-- Every deed keeps the balance, and no word wraps.
use Rattle.std.proofs.Common.{◌≡◌, ℕ, ◌+◌, ◌-◌, ◌%◌, ◌^◌, ◌<◌, ◌≤◌, ◌∙◌, arith, sym, ap, mod-eq_of_lt}
use mathlib.Core.Option.{some}
use lib.ListN.{get_elem?}
use Rattle.quiet_core.specs.Account.{Shape, Account}
use Rattle.quiet_core.specs.declared.deed.Deed.{Deed}
use Rattle.quiet_core.specs.declared.deed.Deed.TheVariants as deed
use Rattle.quiet_core.specs.Step.{State, word, Change, up, down, place, change, changed, May, acted}
use Rattle.quiet_core.specs.Balance.{Balance}
use Rattle.quiet_core.proofs.Acks.{one_left}
use Rattle.quiet_core.proofs.ClaimKeeps.{claim_keeps, claim_fits}
use Rattle.quiet_core.proofs.RaiseKeeps.{raise_keeps, raise_fits}
use Rattle.quiet_core.proofs.PostKeeps.{post_keeps, post_fits}
use Rattle.quiet_core.proofs.DoneKeeps.{done_keeps}
use Rattle.quiet_core.proofs.CollectKeeps.{collect_keeps, look_keeps}
use Rattle.quiet_core.proofs.AckKeeps.{ack_keeps, enough}
use Rattle.quiet_core.proofs.ClimbKeeps.{climb_keeps, some_kids}

abbrev amount : Change → ℕ
amount (up k) = k
amount (down k) = k
amount _ = 0

module _ (t : Shape) (s : State) (h : ℕ) (a : Account) (w : Balance t s) (at : get_elem? s.accounts h ≡ some a) where
  pub keeps : (d : Deed) → May t d a → Balance t (acted t h a d s)
  keeps (deed.Claim m) may = claim_keeps t s h a m w at may
  keeps (deed.Raise m i n) may = raise_keeps t s h a m i n w at may
  keeps (deed.Post m i to n) may = post_keeps t s h a m i to n w at may
  keeps (deed.Done m i) may = done_keeps t s h a m i w at may
  keeps (deed.Collect n) may = collect_keeps t s h a n w at may
  keeps (deed.Look m n) may = look_keeps t s h a m n w at may
  keeps (deed.Ack m n k) may = ack_keeps t s h a m n k w at may
  keeps (deed.Climb c) may = climb_keeps t s h a c w at may

  pub up_fits : (d : Deed) (k : ℕ) → May t d a → change d ≡ up k → word s (place t d) + k < 2 ^ 64
  up_fits (deed.Claim m) k may e = let l = claim_fits t s h a m w at may in let is : 1 ≡ k = ap amount e in omega arith
  up_fits (deed.Raise m i n) k may e = let l = raise_fits t s h a m i n w at may in let is : n ≡ k = ap amount e in omega arith
  up_fits (deed.Post m i to n) k may e = let l = post_fits t s h a m i to n w at may in let is : n ≡ k = ap amount e in omega arith
  up_fits (deed.Done m i) k may e = cc
  up_fits (deed.Collect n) k may e = cc
  up_fits (deed.Look m n) k may e = cc
  up_fits (deed.Ack m n j) k may e = cc
  up_fits (deed.Climb c) k may e = cc

  pub down_fits : (d : Deed) (k : ℕ) → May t d a → change d ≡ down k → k ≤ word s (place t d)
  down_fits (deed.Claim m) k may e = cc
  down_fits (deed.Raise m i n) k may e = cc
  down_fits (deed.Post m i to n) k may e = cc
  down_fits (deed.Done m i) k may e = let l = one_left t s w h a at m i may.0 may.2 in let is : 1 ≡ k = ap amount e in omega arith
  down_fits (deed.Collect n) k may e = cc
  down_fits (deed.Look m n) k may e = cc
  down_fits (deed.Ack m n j) k may e = let l = enough t s h a m n j w at may in let is : j ≡ k = ap amount e in omega arith
  down_fits (deed.Climb c) k may e = let l = some_kids t s h a c w at may in let is : 1 ≡ k = ap amount e in omega arith

  -- what the word really becomes
  pub up_is : (d : Deed) (k : ℕ) → May t d a → change d ≡ up k → (word s (place t d) + k) % 2 ^ 64 ≡ changed (change d) (word s (place t d))
  up_is d k may e = mod-eq_of_lt (up_fits d k may e) ∙ sym (ap (λ u. changed u (word s (place t d))) e)

  pub down_is : (d : Deed) (k : ℕ) → May t d a → change d ≡ down k → word s (place t d) < 2 ^ 64 → k < 2 ^ 64 → (word s (place t d) + (2 ^ 64 - k)) % 2 ^ 64 ≡ changed (change d) (word s (place t d))
  down_is d k may e small fits = let x : ℕ = word s (place t d) in let l : k ≤ x = down_fits d k may e in let small' : x < 2 ^ 64 = small in
      let f : (x + (2 ^ 64 - k)) % 2 ^ 64 ≡ x - k = omega arith in f ∙ sym (ap (λ u. changed u x) e)
