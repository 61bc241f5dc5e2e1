-- A world kept by managers, as the hands see it.
use Rattle.std.specs.Prelude.{Bool, true, false}
use Rattle.local_manager.specs.Directories.{home_of}
use Rattle.local_manager.specs.Views.{WorldParts, managers_of, route_in}
use Rattle.local_manager.specs.declared.phase.Phase.{Phase}
use Rattle.local_manager.specs.declared.phase.Phase.TheVariants.{Opening, Entered, Closed, Torn}
use Rattle.work_claims.specs.Placed.{Placed}

abbrev pub is_entered : Phase → Bool
is_entered Opening = false
is_entered Entered = true
is_entered Closed = false
is_entered Torn = false

abbrev pub placed_in : {A : Type 0} → WorldParts A → Placed A
placed_in v = record {
  world = v.one;
  at = v.moment;
  entered = is_entered v.phase;
  managers = managers_of v;
  home = home_of v.placed.homes;
  route = route_in v;
}
