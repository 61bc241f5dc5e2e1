-- What a vehicle does.
use Rattle.std.specs.Prelude.{ℕ, ◌+◌, ◌-◌, ◌^◌, ◌==◌, min, ℤ, pos, ◌-ℤ◌, int_lt, unsigned_abs, Bool, false, true, not, ◌&&◌, if◌then◌else◌, [], ◌∷◌, ◌++◌, length, slice_index_or, None, codes}
use Rattle.std.specs.Int.{w64, saturate_signed}
use Rattle.std.specs.List.{fold}
use Rattle.sim_base.specs.declared.ids.ActorId.{ActorId}
use Rattle.actor_trait.specs.Meaning.{Meaning}
use Rattle.actor_trait.specs.Seen.{Seen}
use Rattle.actor_trait.specs.declared.context.Context.{Context}
use Rattle.actor_trait.specs.declared.letter.Letter.{Letter}
use Rattle.actor_trait.specs.declared.outcome.Outcome.{Outcome}
use Rattle.actor_trait.specs.declared.outcome.Sample.{Sample}
use Rattle.road_model.specs.Letters.{enter_to, has_code, leave_to}
use Rattle.road_model.specs.VehicleFields.{VehicleFields}
use Rattle.road_model.specs.declared.vehicle.Drive.{Drive}

-- the road of a leg, which is below the length of the route
abbrev pub road_of_leg : VehicleFields → ℕ → ActorId
road_of_leg s leg = slice_index_or s.route leg (record { 0 = 0 })

-- the road of its own leg
abbrev pub road : VehicleFields → ActorId
road s = road_of_leg s s.leg

-- no other road comes after the one that it is at
abbrev pub is_last : VehicleFields → Bool
is_last s = s.leg + 1 == length s.route

-- how many ticks went by since its first event, within an i64
abbrev pub trip : VehicleFields → Context → Sample
trip s c = record { probe = 1; value = saturate_signed w64 (pos c.now.tick -ℤ pos s.since) }

-- at its first event it keeps the tick, waits, and asks to enter the first road
abbrev pub start : Drive → Context → Drive
start d c = record d {
  vehicle = record d.vehicle { since = c.now.tick; waits = true };
  sends = d.sends ++ enter_to (road_of_leg d.vehicle 0) ∷ [];
}

-- at the end of its last road it leaves it, and its trip is over
abbrev pub end : Drive → Context → Drive
end d c = record d {
  sends = d.sends ++ leave_to (road d.vehicle) ∷ [];
  samples = d.samples ++ trip d.vehicle c ∷ [];
  retires = true;
}

-- at the end of another it waits, and asks to enter the next
abbrev pub turn : Drive → Drive
turn d =
    let next = record d.vehicle { leg = d.vehicle.leg + 1; waits = true } in
    record d { vehicle = next; sends = d.sends ++ enter_to (road next) ∷ [] }

-- it is at the end of the road that it drives on
abbrev pub arrive : Drive → Context → Drive
arrive d c = if is_last d.vehicle then end d c else turn d

-- while it waits, the road of its leg lets it in for some ticks
abbrev pub is_admitted : VehicleFields → Letter → Bool
is_admitted s l = s.waits && has_code 21 l && int_lt (pos 0) l.payload.a && (l.from.0 == (road s).0)

-- it leaves the road before, if there is one, drives, and asks the tick at which it will be at the end
abbrev pub enter : Drive → Context → ℤ → Drive
enter d c length =
    let s = d.vehicle in
    record d {
      vehicle = record s { waits = false };
      sends = d.sends ++ (if s.leg == 0 then [] else leave_to (road_of_leg s (s.leg - 1)) ∷ []);
      samples = d.samples ++ record { probe = 0; value = pos (s.leg + 1) } ∷ [];
      ticks = d.ticks ++ min (c.now.tick + unsigned_abs length) (2 ^ 64 - 1) ∷ [];
    }

abbrev pub hear : Context → Drive → Letter → Drive
hear c d l = if is_admitted d.vehicle l then enter d c l.payload.a else d

abbrev pub vehicle_acts : VehicleFields → Context → Seen → Outcome VehicleFields
vehicle_acts s c e =
    let still : Drive = record { vehicle = s; sends = []; ticks = []; samples = []; retires = false } in
    let first = if e.first then start still c else still in
    let driven = if e.spontaneous && not first.vehicle.waits then arrive first c else first in
    let after = fold (hear c) driven e.inbox in
    record {
      state = after.vehicle;
      sends = after.sends;
      ticks = after.ticks;
      births = [];
      samples = after.samples;
      retire = after.retires;
      fault = None;
    }

abbrev pub vehicle_meaning : Meaning VehicleFields
vehicle_meaning = record { acts = vehicle_acts; kind = λ _. codes "vehicle"; probes = λ _. codes "leg" ∷ codes "trip" ∷ [] }
