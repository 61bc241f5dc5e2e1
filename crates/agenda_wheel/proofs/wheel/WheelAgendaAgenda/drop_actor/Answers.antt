use Rattle.std.proofs.Common.{◌≤◌, ◌+◌, not, nat_eq, ℕ, List, count_by, length, sym, ap, ◌∙◌, arith}
use Rattle.std.proofs.lemmas.List.{with_items_is}
use Rattle.agenda_wheel.proofs.Dropping.{beyond_left}
use Rattle.agenda.specs.Dues.{without_actor}
use Rattle.agenda_wheel.specs.Kept.{is_free}
use Rattle.agenda_wheel.specs.Slots.{sorted}
use Rattle.agenda_wheel.specs.Wheel.{pairs_of}
use Rattle.agenda_wheel.specs.declared.links.Node.{Node}
use Rattle.agenda_wheel.proofs.Whole.{whole_less}
use Rattle.agenda_wheel.proofs.wheel.WheelAgendaAgenda.drop_actor.Goals as goal

pub invariant_of-self : goal.invariant_of-self
invariant_of-self c =
    rw (
      with_items_is c.self.inside.nodes c.drop_each.new.nodes (omega arith),
      with_items_is c.self.inside.ticks c.drop_each.new.ticks (omega arith),
      with_items_is c.self.inside.actors c.drop_each.new.actors (omega arith),
    )
    (whole_less c.self.inside.nodes.items c.drop_each.new.nodes c.self.inside.ticks.items c.drop_each.new.ticks c.self.inside.actors.items
    c.drop_each.new.actors c.self.inside.leasts c.drop_each.new.leasts
    c.self.inside.floor c.self.inside.floor c.self.inside.spare c.drop_each.result (λ d. not (nat_eq d.actor.0 c.args.actor.0))
    c.self.invariant c.drop_each.ensures.sound c.drop_each.ensures.apart c.drop_each.ensures.leasts
    (omega (arith, ap (λ (xs : List ℕ). length xs) c.as_mut_slice-then-actor-len-2.ensures.value))
    (c.drop_each.ensures.left ∙ ap (λ (ns : List Node). without_actor c.args.actor (sorted (pairs_of ns))) c.as_mut_slice.ensures.value)
    (c.drop_each.ensures.free ∙ ap (λ (ns : List Node). count_by is_free (pairs_of ns) + c.drop_each.result) c.as_mut_slice.ensures.value)
    (λ d h e. h))

pub returns-else-actor-len-clause-left : goal.returns-else-actor-len-clause-left
returns-else-actor-len-clause-left c =
    let past : length c.self.inside.actors.items ≤ c.args.actor.0 + 1 = omega arith in
    rw (← c.self.view_is) (sym (beyond_left c.self.inside.nodes.items c.self.inside.ticks.items c.self.inside.actors.items c.args.actor.0
    c.self.invariant.sound past))
