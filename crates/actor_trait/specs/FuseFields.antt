-- A fuse as contracts see it.
use Rattle.std.specs.Prelude.{ℕ, ◌≤◌}

-- at which tick it burns, and the fault that it shows then
pub record FuseFields : Type 0 where
  pub at : ℕ
  pub code : ℕ

-- the ranges that a fuse keeps
pub record IsFuse (s : FuseFields) : Type 0 where
  pub latest : s.at ≤ 1000000000
  pub least : 1 ≤ s.code
  pub most : s.code ≤ 899
