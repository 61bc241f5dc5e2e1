-- What a depot does.
use Rattle.std.specs.Prelude.{◌==◌, pos, ◌+ℤ◌, Bool, false, ◌&&◌, if◌then◌else◌, [], ◌∷◌, replicate}
use Rattle.std.specs.Int.{w64, saturate_signed}
use Rattle.std.specs.List.{fold, list_any}
use Rattle.actor_trait.specs.Seen.{Seen}
use Rattle.actor_trait.specs.declared.bearing.Bearing.{Bearing}
use Rattle.actor_trait.specs.declared.context.Context.{Context}
use Rattle.actor_trait.specs.declared.letter.Letter.{Letter}
use Rattle.soda_model.specs.DepotFields.{DepotFields}
use Rattle.soda_model.specs.Letters.{has_code}
use Rattle.soda_model.specs.RefillFields.{RefillFields}

-- the balancer, who has the number 0, tells of a birth
abbrev pub is_birth : Letter → Bool
is_birth l = (l.from.0 == 0) && has_code 0 l

-- a birth is counted, at most to the last of an i64
abbrev pub hear : DepotFields → Letter → DepotFields
hear s l = if is_birth l then record s { born = saturate_signed w64 (s.born +ℤ pos 1) } else s

-- a refill of its machine
abbrev pub refill_of : DepotFields → RefillFields
refill_of s = record { machine = s.machine; cans = s.cans }

-- it asks for its tick at its first event, and bears its refills when that comes
abbrev pub depot_bears : DepotFields → Context → Seen → Bearing DepotFields RefillFields
depot_bears s c e =
    let after = fold hear s e.inbox in
    record {
      state = after;
      sends = [];
      ticks = (if e.first then s.at ∷ [] else []);
      births = (if e.spontaneous then replicate s.trucks (refill_of s) else []);
      samples = (if list_any is_birth e.inbox then record { probe = 0; value = after.born } ∷ [] else []);
      retire = false;
    }
