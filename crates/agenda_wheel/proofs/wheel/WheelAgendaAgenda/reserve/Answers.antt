use Rattle.std.proofs.Common.{◌+◌, ℕ, List, count_by, length, ap, ◌∙◌, subst, arith, length-append}
use Rattle.std.proofs.lemmas.List.{with_items_is}
use Rattle.agenda_wheel.specs.Kept.{is_free}
use Rattle.agenda_wheel.specs.Slots.{sorted}
use Rattle.agenda_wheel.specs.Wheel.{pairs_of, Sound}
use Rattle.agenda_wheel.specs.declared.links.Node.{Node}
use Rattle.agenda_wheel.proofs.Growing.{longer_sound}
use Rattle.agenda_wheel.proofs.Whole.{whole_grown}
use Rattle.agenda_wheel.proofs.wheel.WheelAgendaAgenda.reserve.Goals as goal

pub invariant_of-self : goal.invariant_of-self
invariant_of-self c = rw (c.make_room.ensures.nodes, c.in_err-make_room.ensures.same) c.self.invariant

pub grow_by-requires-clause-sound : goal.grow_by-requires-clause-sound
grow_by-requires-clause-sound c =
    rw (c.as_slice.ensures.value, c.as_mut_slice.ensures.value, c.in_ok-make_room.ensures.nodes, c.in_ok-make_room.ensures.actors)
    (longer_sound c.self.inside.nodes.items c.self.inside.ticks.items c.self.inside.actors.items _ c.self.invariant.sound)

pub invariant_of-self-2 : goal.invariant_of-self-2
invariant_of-self-2 c =
    let e = ap (λ (hs : List ℕ). length hs) c.as_mut_slice.ensures.value ∙ ap (λ (hs : List ℕ). length hs) c.in_ok-make_room.ensures.actors
    ∙ length-append c.self.inside.actors.items _ in
    rw (with_items_is c.make_room.new.actors c.grow_by.new.actors (omega arith))
    (whole_grown c.self.inside.nodes.items c.grow_by.new.nodes.items c.self.inside.ticks.items c.self.inside.actors.items c.grow_by.new.actors
    c.self.inside.leasts
    c.self.inside.floor c.self.inside.spare c.saturating_sub-more.result c.self.invariant
    (subst (λ ts. Sound c.grow_by.new.nodes.items ts c.grow_by.new.actors) c.as_slice.ensures.value c.grow_by.ensures.sound)
    c.grow_by.ensures.apart (omega (arith, e))
    (c.grow_by.ensures.pairs ∙ ap (λ (ns : List Node). sorted (pairs_of ns)) c.in_ok-make_room.ensures.nodes)
    (c.grow_by.ensures.free ∙ ap (λ (ns : List Node). count_by is_free (pairs_of ns) + c.saturating_sub-more.result)
    c.in_ok-make_room.ensures.nodes))
