-- An origin as contracts see it.
use Rattle.std.specs.Prelude.{ℕ, ◌≤◌, ℤ, List}
use Rattle.sim_base.specs.declared.ids.ActorId.{ActorId}
use Rattle.road_model.specs.VehicleFields.{IsRoute}

-- the roads of its vehicles, the ticks between two of them, how many they are, how many are left, and how many were born
pub record OriginFields : Type 0 where
  pub route : List ActorId
  pub period : ℕ
  pub count : ℕ
  pub left : ℕ
  pub born : ℤ

-- the ranges that an origin keeps
pub record IsOrigin (s : OriginFields) : Type 0 where
  pub route : IsRoute s.route
  pub shortest : 1 ≤ s.period
  pub longest : s.period ≤ 1000000000
  pub few : s.count ≤ 100000
  pub some : s.left ≤ s.count
