-- A front of a name in a place of fixed size.
use Rattle.std.proofs.Common.{◌≡◌, ℕ, ◌-◌, ◌≤◌, List, ◌++◌, length, take, drop, min, sym, ap, ◌∙◌, arith, length-append}
use Rattle.std.specs.Prelude.{replicate}
use Rattle.std.proofs.Math.Seq.{drop-append_seam}
use Rattle.std.proofs.lemmas.List.{take_at, length-take-le, take_min, drop-replicate, length-replicate}

-- what stands in a place of 64
pub record Placed (m : ℕ) (name place : List ℕ) : Type 0 where
  pub short : m ≤ 64
  pub long : length place ≡ 64
  pub rest : drop m place ≡ replicate (64 - m) 0
  pub front : take m place ≡ take 64 name

pub placed : (m : ℕ) (name copied : List ℕ) → m ≡ min 64 (length name) → copied ≡ take m name → Placed m name (copied ++ drop {A = ℕ} m (replicate 64 0))
placed m name copied e same =
    let short : m ≤ length name = omega arith in
    let len : length copied ≡ m = ap length same ∙ length-take-le m name short in
    let rest : drop {A = ℕ} m (replicate 64 0) ≡ replicate (64 - m) 0 = drop-replicate m 64 0 in
    record {
      short = omega arith;
      long = rw rest (simp (length-append, length-replicate) (omega (arith, len)));
      rest = ap (λ n. drop n (copied ++ drop {A = ℕ} m (replicate 64 0))) (sym len) ∙ drop-append_seam copied (drop {A = ℕ} m (replicate 64 0)) ∙ rest;
      front = take_at copied (drop {A = ℕ} m (replicate 64 0)) m len ∙ same ∙ ap (λ k. take k name) e ∙ take_min 64 name;
    }
