use Rattle.std.proofs.Common.{◌-◌, ℕ, List, count_by, length, ap, ◌∙◌, arith}
use Rattle.std.proofs.lemmas.List.{with_items_is}
use Rattle.agenda.specs.Dues.{add_due}
use Rattle.agenda_wheel.specs.Kept.{is_free}
use Rattle.agenda_wheel.specs.Slots.{sorted}
use Rattle.agenda_wheel.specs.Wheel.{pairs_of}
use Rattle.agenda_wheel.specs.declared.links.Node.{Node}
use Rattle.agenda_wheel.proofs.Whole.{whole_more}
use Rattle.agenda_wheel.proofs.wheel.WheelAgendaAgenda.add.Goals as goal

pub invariant_of-self : goal.invariant_of-self
invariant_of-self c =
    let n = ap (λ (ns : List Node). count_by is_free (pairs_of ns)) c.as_mut_slice.ensures.value in
    let f = c.self.invariant.spare in
    rw (
      with_items_is c.self.inside.nodes c.add_pair.new.nodes (omega arith),
      with_items_is c.self.inside.ticks c.add_pair.new.ticks (omega arith),
      with_items_is c.self.inside.actors c.add_pair.new.actors (omega arith),
      c.min-self-inside.ensures,
    )
    (whole_more c.self.inside.nodes.items c.add_pair.new.nodes c.self.inside.ticks.items c.add_pair.new.ticks c.self.inside.actors.items
    c.add_pair.new.actors c.self.inside.leasts c.add_pair.new.leasts
    c.self.inside.floor c.self.inside.spare (c.self.inside.spare - 1) (record { tick = c.args.tick; actor = c.args.actor })
    c.self.invariant c.add_pair.ensures.sound c.add_pair.ensures.apart c.add_pair.ensures.leasts
    (omega (arith, ap (λ (xs : List ℕ). length xs) c.as_mut_slice-3.ensures.value))
    (c.add_pair.ensures.pairs ∙ ap (λ (ns : List Node). add_due (record { tick = c.args.tick; actor = c.args.actor })
    (sorted (pairs_of ns))) c.as_mut_slice.ensures.value)
    (let g = c.if-add_pair.ensures.spare in omega (arith, n, f, g)))

pub invariant_of-self-else-add_pair : goal.invariant_of-self-else-add_pair
invariant_of-self-else-add_pair c =
    let n = ap (λ (ns : List Node). count_by is_free (pairs_of ns)) c.as_mut_slice.ensures.value in
    let f = c.self.invariant.spare in
    rw (
      with_items_is c.self.inside.nodes c.add_pair.new.nodes (omega arith),
      with_items_is c.self.inside.ticks c.add_pair.new.ticks (omega arith),
      with_items_is c.self.inside.actors c.add_pair.new.actors (omega arith),
      c.min-self-inside.ensures,
    )
    (whole_more c.self.inside.nodes.items c.add_pair.new.nodes c.self.inside.ticks.items c.add_pair.new.ticks c.self.inside.actors.items
    c.add_pair.new.actors c.self.inside.leasts c.add_pair.new.leasts
    c.self.inside.floor c.self.inside.spare c.self.inside.spare (record { tick = c.args.tick; actor = c.args.actor })
    c.self.invariant c.add_pair.ensures.sound c.add_pair.ensures.apart c.add_pair.ensures.leasts
    (omega (arith, ap (λ (xs : List ℕ). length xs) c.as_mut_slice-3.ensures.value))
    (c.add_pair.ensures.pairs ∙ ap (λ (ns : List Node). add_due (record { tick = c.args.tick; actor = c.args.actor })
    (sorted (pairs_of ns))) c.as_mut_slice.ensures.value)
    (let g = c.if-add_pair.ensures.spare in omega (arith, n, f, g)))
