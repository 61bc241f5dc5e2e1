use Rattle.std.proofs.Common.{◌+◌, ◌≤◌, length, sym, ◌∙◌, arith}
use Rattle.agenda_wheel.proofs.Dropping.{beyond_ticks}
use Rattle.agenda_wheel.proofs.wheel.WheelAgendaAgenda.ticks_of.Goals as goal

pub returns-else-actor-len : goal.returns-else-actor-len
returns-else-actor-len c =
    let past : length c.self.inside.actors.items ≤ c.args.actor.0 + 1 = omega arith in
    rw (← c.self.view_is) (c.new.ensures ∙ sym (beyond_ticks c.self.inside.nodes.items c.self.inside.ticks.items c.self.inside.actors.items
    c.args.actor.0 c.self.invariant.sound past))
