-- What an origin does.
use Rattle.std.specs.Prelude.{ℕ, ◌+◌, ◌-◌, ◌^◌, min, nat_lt, pos, ◌+ℤ◌, false, true, if◌then◌else◌, List, [], ◌∷◌, ◌++◌}
use Rattle.std.specs.Int.{w64, saturate_signed}
use Rattle.std.specs.List.{count_by}
use Rattle.actor_trait.specs.Seen.{Seen}
use Rattle.actor_trait.specs.declared.bearing.Bearing.{Bearing}
use Rattle.actor_trait.specs.declared.context.Context.{Context}
use Rattle.road_model.specs.Letters.{is_birth}
use Rattle.road_model.specs.OriginFields.{OriginFields}
use Rattle.road_model.specs.VehicleFields.{VehicleFields}

-- while some are left, the tick one period later, at most the last of a u64
abbrev pub next_birth : OriginFields → Context → List ℕ
next_birth s c = if nat_lt 0 s.left then min (c.now.tick + s.period) (2 ^ 64 - 1) ∷ [] else []

-- a vehicle that waits for the first road of its route
abbrev pub vehicle_of : OriginFields → VehicleFields
vehicle_of s = record { route = s.route; leg = 0; since = 0; waits = true }

-- at its tick one less is left
abbrev pub take_one : OriginFields → OriginFields
take_one s = record s { left = s.left - 1 }

-- each birth that it is told of is counted, at most to the last of an i64
abbrev pub hear : OriginFields → ℕ → OriginFields
hear s births = record s { born = saturate_signed w64 (s.born +ℤ pos births) }

abbrev pub origin_bears : OriginFields → Context → Seen → Bearing OriginFields VehicleFields
origin_bears s c e =
    let sent = if e.spontaneous then take_one s else s in
    let births = count_by is_birth e.inbox in
    let after = hear sent births in
    record {
      state = after;
      sends = [];
      ticks = (if e.first then next_birth s c else []) ++ (if e.spontaneous then next_birth sent c else []);
      births = (if e.spontaneous then vehicle_of s ∷ [] else []);
      samples = (if nat_lt 0 births then record { probe = 0; value = after.born } ∷ [] else []);
      retire = false;
    }
