-- A ball player as contracts see it.
use Rattle.std.specs.Prelude.{◌≡◌, ℕ, ◌≤◌, ℤ, pos}
use Rattle.sim_base.specs.declared.ids.ActorId.{ActorId}

-- to whom it serves, at which tick, with how many hits, and how many balls it received
pub record BallFields : Type 0 where
  pub peer : ActorId
  pub at : ℕ
  pub hits : ℤ
  pub received : ℤ

-- the ranges that it keeps
pub record IsBall (s : BallFields) : Type 0 where
  pub least : 1 ≤ s.at
  pub most : s.at ≤ 1000000000
  pub hits_in_all : ℕ
  pub hits : s.hits ≡ pos hits_in_all
  pub few : hits_in_all ≤ 1000000000
