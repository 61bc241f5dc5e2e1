-- What a call gives of a list in memory, and how bytes stand in a place of fixed size.
use Rattle.std.proofs.Common.{◌≡◌, ℕ, ◌+◌, ◌-◌, ◌≤◌, List, ◌++◌, length, take, drop, arith, sym, ◌∙◌, length-append, length-take, length-drop, take-append-drop}
use Rattle.std.specs.Prelude.{replicate}
use Rattle.std.proofs.Math.Seq.{drop-append_seam}
use Rattle.std.proofs.lemmas.List.{take_at, drop-drop, drop-replicate, length-replicate}

pub given : (xs into copied : List ℕ) (at n : ℕ) → at + n ≤ length xs → copied ≡ take n (drop at xs)
    → drop at xs ≡ take n (copied ++ drop n into) ++ drop (at + n) xs
given xs into copied at n h e =
    let long : length copied ≡ n = rw e (simp (length-take, length-drop) (omega arith)) in
    rw (take_at copied (drop n into) n long, e, ← drop-drop n at xs) (sym (take-append-drop n (drop at xs)))

-- what stands behind some bytes in a place of 32
pub record Placed (bytes place : List ℕ) : Type 0 where
  pub long : length place ≡ 32
  pub rest : drop (length bytes) place ≡ replicate (32 - length bytes) 0

pub placed : (bytes copied : List ℕ) → length bytes ≤ 32 → copied ≡ bytes → Placed bytes (copied ++ drop {A = ℕ} (length bytes) (replicate 32 0))
placed bytes copied fits e =
    let rest : drop {A = ℕ} (length bytes) (replicate 32 0) ≡ replicate (32 - length bytes) 0 = drop-replicate (length bytes) 32 0 in
    rw e record {
      long = rw rest (simp (length-append, length-replicate) (omega arith));
      rest = drop-append_seam bytes (drop {A = ℕ} (length bytes) (replicate 32 0)) ∙ rest;
    }
