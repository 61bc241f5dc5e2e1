use Rattle.std.proofs.Common.{◌≡◌, ◌++◌, drop, take, map}
use Rattle.sim_model.specs.Births.{births_of_moment, next_after}
use Rattle.sim_model.specs.Births.{without_births}
use Rattle.sim_model.proofs.births.take_all_births.Given as goal

abbrev pub invariant-loop-report : goal.invariant-loop-report
invariant-loop-report g l =
    (l.reports ≡ map without_births (take l.report-index l.fn.reports) ++ drop l.report-index l.fn.reports)
    × (next_after l.first (drop l.report-index l.fn.reports) ≡ next_after l.next l.fn.reports)
    × (l.born.items ++ births_of_moment g.A.Actor.meaning l.first
    (drop l.report-index l.fn.reports) ≡ births_of_moment g.A.Actor.meaning l.next l.fn.reports)
