-- A refill as contracts see it.
use Rattle.std.specs.Prelude.{◌≡◌, ℕ, ◌≤◌, ℤ, pos}
use Rattle.sim_base.specs.declared.ids.ActorId.{ActorId}

-- which machine it fills, and with how many cans
pub record RefillFields : Type 0 where
  pub machine : ActorId
  pub cans : ℤ

-- the range of the cans of a refill and of a depot
pub record IsLoad (cans : ℤ) : Type 0 where
  pub number : ℕ
  pub whole : cans ≡ pos number
  pub least : 1 ≤ number
  pub most : number ≤ 1000000
