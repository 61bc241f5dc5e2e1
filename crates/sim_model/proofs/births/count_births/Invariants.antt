use Rattle.std.proofs.Common.{◌≡◌, ◌+◌, ◌-◌, ◌≤◌, drop}
use Rattle.sim_model.specs.Births.{next_after}
use Rattle.sim_model.specs.Moment.{first_fault}
use Rattle.sim_model.proofs.births.count_births.Given as goal

abbrev pub invariant-loop-report : goal.invariant-loop-report
invariant-loop-report g l =
    (l.room ≤ l.max_actors + 1 - l.next)
    × (first_fault g.A.Actor.meaning l.max_actors (l.max_actors + 1 - l.room) l.at
    (drop l.report-index l.reports) ≡ first_fault g.A.Actor.meaning l.max_actors l.next l.at l.reports)
    × (next_after (l.max_actors + 1 - l.room) (drop l.report-index l.reports) ≡ next_after l.next l.reports)
