use Rattle.std.proofs.Common.{◌≡◌, ◌+◌, drop, ◌++◌}
use Rattle.sim_model.specs.Moment.{living_from}
use Rattle.local_manager.proofs.states.living.Given as goal

abbrev pub invariant-loop-state : goal.invariant-loop-state
invariant-loop-state g l =
    (l.next ≡ l.state-index + 1)
    × (l.ids.items ++ living_from l.next (drop l.state-index l.states) ≡ living_from 1 l.states)
