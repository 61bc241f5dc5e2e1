-- Lines that are tried.
use Rattle.std.proofs.Common.{ℕ, List, take, Option, Result, Ok, Err, length, refl, inl, inr}
use Rattle.std.proofs.Math.Seq.{take-length}
use Rattle.scenario.specs.Pieces.{Writes}
use Rattle.sim_top.specs.Lines.{Tries}

module _ {E : Type 0} (written : E → Option (List ℕ)) (faults : E → ℕ) where
  -- a line of which all pieces were written, or one broke, was tried
  pub tried : {X : Type 0} (old new : E) (r : Result (Unit {0}) X) (line : List ℕ)
      → Writes written faults old new r line → Tries (written old) (written new) (faults old) (faults new) line
  tried old new (Ok u) line w = record { count = length line; wrote = rw take-length w.wrote; whole = inl (refl, w.sound) }
  tried old new (Err e) line w = record { count = w.count; wrote = w.wrote; whole = inr w.fails }
