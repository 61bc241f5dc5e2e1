use Rattle.std.proofs.Common.{◌≡◌, ◌++◌, length}
use Rattle.agenda.specs.Dues.{due_at, without_tick}
use Rattle.sim_model.specs.Stepping.{RisesFrom}
use Rattle.sim_model.proofs.due_set.DueSet.take.Given as goal

abbrev pub invariant-loop-actor : goal.invariant-loop-actor
invariant-loop-actor l =
    (RisesFrom l.tick l.self)
    × (l.ids.items ++ due_at l.tick l.self ≡ l.fn.ids.items ++ due_at l.tick l.fn.self)
    × (without_tick l.tick l.self ≡ without_tick l.tick l.fn.self)

abbrev pub decreases-loop-actor : goal.decreases-loop-actor
decreases-loop-actor l = length l.self
