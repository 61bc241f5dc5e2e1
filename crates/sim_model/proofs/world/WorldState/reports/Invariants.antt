use Rattle.std.proofs.Common.{◌≡◌, take}
use Rattle.std.specs.List.{filter_map}
use Rattle.sim_model.specs.Moment.{report_of}
use Rattle.sim_model.proofs.world.WorldState.reports.Given as goal

abbrev pub invariant-loop-id : goal.invariant-loop-id
invariant-loop-id g l = l.all.items ≡ filter_map (report_of g.A.Actor.meaning l.self l.at) (take l.id-index l.scheduled)
