use Rattle.std.proofs.Common.{◌≤◌, ◌+◌, not, nat_eq, ℕ, List, count_by, length, sym, ap, ◌∙◌, arith}
use Rattle.std.proofs.lemmas.List.{with_items_is}
use Rattle.agenda_wheel.proofs.Dropping.{beyond_left, beyond_none}
use Rattle.agenda.specs.Dues.{without_actor}
use Rattle.agenda_wheel.specs.Kept.{is_free}
use Rattle.agenda_wheel.specs.Slots.{sorted}
use Rattle.agenda_wheel.specs.Wheel.{pairs_of}
use Rattle.agenda_wheel.specs.declared.links.Node.{Node}
use Rattle.agenda_wheel.proofs.Whole.{whole_less}
use Rattle.agenda_wheel.proofs.wheel.WheelAgenda.drop_counted.Goals as goal

pub invariant_of-self : goal.invariant_of-self
invariant_of-self g c =
    rw (
      with_items_is c.self.inside.nodes c.drop_all.new.nodes (omega arith),
      with_items_is c.self.inside.ticks c.drop_all.new.ticks (omega arith),
      with_items_is c.self.inside.actors c.drop_all.new.actors (omega arith),
    )
    (whole_less c.self.inside.nodes.items c.drop_all.new.nodes c.self.inside.ticks.items c.drop_all.new.ticks c.self.inside.actors.items
    c.drop_all.new.actors c.self.inside.leasts c.drop_all.new.leasts
    c.self.inside.floor c.self.inside.floor c.self.inside.spare c.drop_all.result (λ d. not (nat_eq d.actor.0 c.args.actor.0))
    c.self.invariant c.drop_all.ensures.sound c.drop_all.ensures.apart c.drop_all.ensures.leasts
    (omega (arith, ap (λ (xs : List ℕ). length xs) c.as_mut_slice-then-actor-len-2.ensures.value))
    (c.drop_all.ensures.left ∙ ap (λ (ns : List Node). without_actor c.args.actor (sorted (pairs_of ns))) c.as_mut_slice.ensures.value)
    (c.drop_all.ensures.free ∙ ap (λ (ns : List Node). count_by is_free (pairs_of ns) + c.drop_all.result) c.as_mut_slice.ensures.value)
    (λ d h e. h))

pub returns-else-actor-len-clause-left : goal.returns-else-actor-len-clause-left
returns-else-actor-len-clause-left g c =
    let past : length c.self.inside.actors.items ≤ c.args.actor.0 + 1 = omega arith in
    rw (← c.self.view_is) (sym (beyond_left c.self.inside.nodes.items c.self.inside.ticks.items c.self.inside.actors.items c.args.actor.0
    c.self.invariant.sound past))

pub returns-else-actor-len-clause-count : goal.returns-else-actor-len-clause-count
returns-else-actor-len-clause-count g c =
    let past : length c.self.inside.actors.items ≤ c.args.actor.0 + 1 = omega arith in
    rw (← c.self.view_is) (omega (
      arith,
      beyond_none c.self.inside.nodes.items c.self.inside.ticks.items c.self.inside.actors.items
          c.args.actor.0 c.self.invariant.sound past,
    ))
