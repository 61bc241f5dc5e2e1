use Rattle.std.proofs.Common.{◌≡◌, take}
use Rattle.std.specs.List.{fold}
use Rattle.road_model.specs.Roads.{pass}
use Rattle.road_model.proofs.traffic.Traffic.pass_all.Given as goal

abbrev pub invariant-loop-letter : goal.invariant-loop-letter
invariant-loop-letter l = l.self ≡ fold pass l.fn.self (take l.letter-index l.inbox)
