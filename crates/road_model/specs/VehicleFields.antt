-- A vehicle as contracts see it.
use Rattle.std.specs.Prelude.{ℕ, ◌<◌, ◌≤◌, Bool, List, length}
use Rattle.sim_base.specs.declared.ids.ActorId.{ActorId}

-- its roads in order, which of them it is at, the tick of its first event, and whether it waits to enter
pub record VehicleFields : Type 0 where
  pub route : List ActorId
  pub leg : ℕ
  pub since : ℕ
  pub waits : Bool

-- the range of the route of a vehicle and of an origin
pub record IsRoute (route : List ActorId) : Type 0 where
  pub one : 1 ≤ length route
  pub few : length route ≤ 32

-- the ranges that a vehicle keeps
pub record IsVehicle (s : VehicleFields) : Type 0 where
  pub route : IsRoute s.route
  pub on_route : s.leg < length s.route
