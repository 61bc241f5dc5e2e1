use Rattle.std.proofs.Common.{refl}
use Rattle.agenda_wheel.specs.Wheel.{pairs_of}
use Rattle.agenda_wheel.proofs.Sets.{rises_sorted}
use Rattle.agenda_wheel.proofs.Whole.{floor_is, least_is}
use Rattle.agenda_wheel.proofs.wheel.WheelAgendaAgenda.least.Goals as goal

pub returns-then-is_least-clause-value : goal.returns-then-is_least-clause-value
returns-then-is_least-clause-value c =
    rw (← c.self.view_is)
    (floor_is c.self.inside.nodes.items c.self.inside.ticks.items c.self.inside.actors.items c.self.inside.leasts c.self.inside.floor
    c.self.inside.spare c.self.invariant (c.if-is_least.ensures.there refl))

pub returns-then-is_least-clause-order : goal.returns-then-is_least-clause-order
returns-then-is_least-clause-order c = rw (← c.self.view_is) (rises_sorted (pairs_of c.self.inside.nodes.items))

pub returns-else-is_least-clause-value : goal.returns-else-is_least-clause-value
returns-else-is_least-clause-value c =
    rw (← c.self.view_is)
    (least_is c.self.inside.nodes.items c.self.inside.ticks.items c.self.inside.actors.items c.self.inside.leasts c.self.inside.floor
    c.self.inside.spare c.least.result c.self.invariant c.least.ensures)

pub returns-else-is_least-clause-order : goal.returns-else-is_least-clause-order
returns-else-is_least-clause-order c = rw (← c.self.view_is) (rises_sorted (pairs_of c.self.inside.nodes.items))
