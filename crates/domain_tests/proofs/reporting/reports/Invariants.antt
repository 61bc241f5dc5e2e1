use Rattle.std.proofs.Common.{◌≡◌}
use Rattle.std.specs.List.{filter_map}
use Rattle.sim_model.specs.Moment.{report_of}
use Rattle.domain_tests.proofs.Gathering.{below}
use Rattle.domain_tests.proofs.reporting.reports.Given as goal

abbrev pub invariant-loop-n : goal.invariant-loop-n
invariant-loop-n g l = l.all.items ≡ filter_map (report_of g.A.Actor.meaning l.world.one l.world.moment) (below l.n l.world.one.scheduled)
