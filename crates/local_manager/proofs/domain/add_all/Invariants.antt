use Rattle.std.proofs.Common.{◌≡◌, ◌≤◌, ◌+◌, length, take}
use Rattle.sim_model.specs.Moment.{ask}
use Rattle.local_manager.proofs.domain.add_all.Given as goal

abbrev pub invariant-loop-tick : goal.invariant-loop-tick
invariant-loop-tick g l =
    (g.G.Agenda.pairs l.agenda ≡ ask l.actor (g.G.Agenda.pairs l.fn.agenda) (take l.tick-index l.ticks))
    × (length l.ticks ≤ g.G.Agenda.spare l.agenda + l.tick-index)
    × (l.actor.0 ≤ g.G.Agenda.top l.agenda)
