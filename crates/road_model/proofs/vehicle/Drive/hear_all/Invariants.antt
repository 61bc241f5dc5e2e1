use Rattle.std.proofs.Common.{◌≡◌, take}
use Rattle.std.specs.List.{fold}
use Rattle.road_model.specs.Vehicles.{hear}
use Rattle.road_model.proofs.vehicle.Drive.hear_all.Given as goal

abbrev pub invariant-loop-letter : goal.invariant-loop-letter
invariant-loop-letter l = l.self ≡ fold (hear l.fn.context) l.fn.self (take l.letter-index l.inbox)
