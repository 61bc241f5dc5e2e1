use Rattle.std.proofs.Common.{◌+◌, not, nat_eq, ℕ, List, count_by, length, ap, ◌∙◌, arith}
use Rattle.std.proofs.lemmas.List.{with_items_is}
use Rattle.agenda.specs.Dues.{without_tick}
use Rattle.agenda_wheel.specs.Kept.{is_free}
use Rattle.agenda_wheel.specs.Slots.{sorted}
use Rattle.agenda_wheel.specs.Wheel.{pairs_of}
use Rattle.agenda_wheel.specs.declared.links.Node.{Node}
use Rattle.agenda_wheel.proofs.Whole.{whole_less, not_tick}
use Rattle.agenda_wheel.proofs.wheel.WheelAgendaAgenda.take_due.Goals as goal

pub invariant_of-self : goal.invariant_of-self
invariant_of-self c =
    rw (
      with_items_is c.self.inside.nodes c.take_all.new.nodes (omega arith),
      with_items_is c.self.inside.ticks c.take_all.new.ticks (omega arith),
      with_items_is c.self.inside.actors c.take_all.new.actors (omega arith),
    )
    (whole_less c.self.inside.nodes.items c.take_all.new.nodes c.self.inside.ticks.items c.take_all.new.ticks c.self.inside.actors.items
    c.take_all.new.actors c.self.inside.leasts c.take_all.new.leasts
    c.self.inside.floor c.floor_without-self-inside.result c.self.inside.spare c.take_all.result (λ d. not (nat_eq d.tick c.args.tick))
    c.self.invariant c.take_all.ensures.sound c.take_all.ensures.apart c.take_all.ensures.leasts
    (omega (arith, ap (λ (xs : List ℕ). length xs) c.as_mut_slice-3.ensures.value))
    (c.take_all.ensures.left ∙ ap (λ (ns : List Node). without_tick c.args.tick (sorted (pairs_of ns))) c.as_mut_slice.ensures.value)
    (c.take_all.ensures.free ∙ ap (λ (ns : List Node). count_by is_free (pairs_of ns) + c.take_all.result) c.as_mut_slice.ensures.value)
    (λ d h e. c.floor_without-self-inside.ensures d.tick h (not_tick c.args.tick d e)))
