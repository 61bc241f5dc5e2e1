-- What a road does.
use Rattle.std.specs.Prelude.{pos, ◌+ℤ◌, ◌-ℤ◌, int_lt, Bool, false, ◌||◌, if◌then◌else◌, List, [], ◌∷◌, ◌++◌, length, None, codes}
use Rattle.std.specs.Int.{w64, saturate_signed}
use Rattle.std.specs.List.{fold, list_any}
use Rattle.sim_base.specs.declared.ids.ActorId.{ActorId}
use Rattle.actor_trait.specs.Meaning.{Meaning}
use Rattle.actor_trait.specs.Seen.{Seen}
use Rattle.actor_trait.specs.declared.context.Context.{Context}
use Rattle.actor_trait.specs.declared.letter.Letter.{Letter}
use Rattle.actor_trait.specs.declared.outcome.Outcome.{Outcome}
use Rattle.actor_trait.specs.declared.outcome.Sample.{Sample}
use Rattle.road_model.specs.Letters.{admit_to, has_code}
use Rattle.road_model.specs.RoadFields.{RoadFields, TrafficFields}

-- one car more is on the road, within an i64
abbrev pub with_car : RoadFields → RoadFields
with_car s = record s { cars = saturate_signed w64 (s.cars +ℤ pos 1) }

-- one car less
abbrev pub without_car : RoadFields → RoadFields
without_car s = record s { cars = saturate_signed w64 (s.cars -ℤ pos 1) }

-- a car is let in, and told how long it drives
abbrev pub admit : TrafficFields → ActorId → TrafficFields
admit t car = record {
  road = with_car t.road;
  sends = t.sends ++ admit_to car t.road.length ∷ [];
}

-- these wait, and no others
abbrev pub with_queue : TrafficFields → List ActorId → TrafficFields
with_queue t queue = record t { road = record t.road { queue = queue } }

-- a car that comes is let in while there is room, else it waits behind the others
abbrev pub enter : TrafficFields → ActorId → TrafficFields
enter t car =
    if int_lt t.road.cars t.road.room then admit t car else with_queue t (t.road.queue ++ car ∷ [])

-- of those that wait, the first is let in
abbrev pub admit_first : TrafficFields → List ActorId → TrafficFields
admit_first t [] = t
admit_first t (car ∷ rest) = admit (with_queue t rest) car

-- a car leaves, if there is one, and its place goes to the first that waits
abbrev pub leave : TrafficFields → TrafficFields
leave t =
    if int_lt (pos 0) t.road.cars then admit_first (record t { road = without_car t.road }) t.road.queue else t

-- a car would enter (20), or is off the road (22)
abbrev pub pass : TrafficFields → Letter → TrafficFields
pass t l = if has_code 20 l then enter t l.from else (if has_code 22 l then leave t else t)

abbrev pub is_passed : Letter → Bool
is_passed l = has_code 20 l || has_code 22 l

abbrev pub road_samples : RoadFields → List Sample
road_samples s = record { probe = 0; value = s.cars } ∷ record { probe = 1; value = pos (length s.queue) } ∷ []

abbrev pub road_acts : RoadFields → Context → Seen → Outcome RoadFields
road_acts s c e =
    let after = fold pass (record { road = s; sends = [] }) e.inbox in
    record {
      state = after.road;
      sends = after.sends;
      ticks = [];
      births = [];
      samples = (if e.first || list_any is_passed e.inbox then road_samples after.road else []);
      retire = false;
      fault = None;
    }

abbrev pub road_meaning : Meaning RoadFields
road_meaning = record { acts = road_acts; kind = λ _. codes "road"; probes = λ _. codes "cars" ∷ codes "queue" ∷ [] }
