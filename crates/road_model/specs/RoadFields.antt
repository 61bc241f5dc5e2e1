-- A road as contracts see it.
use Rattle.std.specs.Prelude.{◌≡◌, ℕ, ◌≤◌, ℤ, pos, List}
use Rattle.sim_base.specs.declared.ids.ActorId.{ActorId}
use Rattle.actor_trait.specs.declared.letter.Parcel.{Parcel}

-- how many ticks a car drives on it, how many cars have room, how many are on it, and who waits to enter
pub record RoadFields : Type 0 where
  pub length : ℤ
  pub room : ℤ
  pub cars : ℤ
  pub queue : List ActorId

-- the range of a length and of a room
pub record IsExtent (extent : ℤ) : Type 0 where
  pub number : ℕ
  pub whole : extent ≡ pos number
  pub least : 1 ≤ number
  pub most : number ≤ 1000000

-- the ranges that a road keeps
pub record IsRoad (s : RoadFields) : Type 0 where
  pub length : IsExtent s.length
  pub room : IsExtent s.room

-- a road at its inbox, with what it has sent so far
pub record TrafficFields : Type 0 where
  pub road : RoadFields
  pub sends : List Parcel
