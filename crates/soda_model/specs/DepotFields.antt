-- A depot as contracts see it.
use Rattle.std.specs.Prelude.{ℕ, ◌≤◌, ℤ}
use Rattle.sim_base.specs.declared.ids.ActorId.{ActorId}
use Rattle.soda_model.specs.RefillFields.{IsLoad}

-- which machine its refills fill, when it sends them, how many, with how many cans, and how many were born
pub record DepotFields : Type 0 where
  pub machine : ActorId
  pub at : ℕ
  pub trucks : ℕ
  pub cans : ℤ
  pub born : ℤ

-- the ranges that a depot keeps
pub record IsDepot (s : DepotFields) : Type 0 where
  pub least : 1 ≤ s.at
  pub most : s.at ≤ 1000000000
  pub one : 1 ≤ s.trucks
  pub few : s.trucks ≤ 64
  pub load : IsLoad s.cans
