use Rattle.std.proofs.Common.{◌≡◌, ◌<◌, ◌+◌, length, slice_set, count_by, None, sym, ap, ◌∙◌, arith}
use Rattle.std.proofs.lemmas.List.{get_or_default, length-map}
use Rattle.std.proofs.lemmas.List.Sums.{count_by-le-length}
use Rattle.agenda.specs.Dues.{without_actor, ticks_of}
use Rattle.agenda_wheel.specs.Nodes.{nil, head_of}
use Rattle.agenda_wheel.specs.Kept.{is_free}
use Rattle.agenda_wheel.specs.Slots.{sorted}
use Rattle.agenda_wheel.specs.Wheel.{pair_at, pairs_of}
use Rattle.agenda_wheel.specs.declared.links.Node.{Node}
use Rattle.agenda_wheel.proofs.Adding.{one_more}
use Rattle.agenda_wheel.proofs.Dropping.{step_left, step_count, all_left, none_left}
use Rattle.agenda_wheel.proofs.Freeing.{map_get}
use Rattle.agenda_wheel.proofs.moves.drop_all.Goals as goal

pub loop-due-smaller : goal.loop-due-smaller
loop-due-smaller g c =
    let within : c.args.actor.0 + 1 < length c.loop-due.actors = omega arith in
    let e : pairs_of c.unlink.new.nodes ≡ slice_set (pairs_of c.loop-due.nodes) (head_of c.loop-due.actors (c.args.actor.0 + 1)) None =
    c.unlink.ensures.pairs ∙ ap (λ k. slice_set (pairs_of c.loop-due.nodes) k None)
    (get_or_default c.loop-due.actors (c.args.actor.0 + 1) 0 nil within) in
    omega (
      arith,
      ap (λ s. length (ticks_of c.args.actor (sorted s))) e,
      step_count c.loop-due.nodes c.loop-due.ticks c.loop-due.actors
          c.args.actor c.in-Some.due c.loop-due.invariant.sound c.loop-due.invariant.apart (sym c.in-Some.ensures),
    )

pub overflow_add-dropped : goal.overflow_add-dropped
overflow_add-dropped g c =
    let within : c.args.actor.0 + 1 < length c.loop-due.actors = omega arith in
    let e : pairs_of c.unlink.new.nodes ≡ slice_set (pairs_of c.loop-due.nodes) (head_of c.loop-due.actors (c.args.actor.0 + 1)) None =
    c.unlink.ensures.pairs ∙ ap (λ k. slice_set (pairs_of c.loop-due.nodes) k None)
    (get_or_default c.loop-due.actors (c.args.actor.0 + 1) 0 nil within) in
    let f : count_by is_free (pairs_of c.unlink.new.nodes) ≡ count_by is_free (pairs_of c.loop-due.nodes) + 1 =
    ap (count_by is_free) e ∙ one_more (pairs_of c.loop-due.nodes) (head_of c.loop-due.actors (c.args.actor.0 + 1)) c.in-Some.due
    (map_get c.loop-due.nodes (head_of c.loop-due.actors (c.args.actor.0 + 1)) ∙ sym c.in-Some.ensures) in
    let k = count_by-le-length is_free (pairs_of c.unlink.new.nodes) in
    omega (arith, f, k, length-map c.unlink.new.nodes (λ (n : Node). n.pair), c.unlink.ensures.sound.small, c.loop-due.invariant.free)

pub loop-due-preserved : goal.loop-due-preserved
loop-due-preserved g c =
    let within : c.args.actor.0 + 1 < length c.loop-due.actors = omega arith in
    let e : pairs_of c.unlink.new.nodes ≡ slice_set (pairs_of c.loop-due.nodes) (head_of c.loop-due.actors (c.args.actor.0 + 1)) None =
    c.unlink.ensures.pairs ∙ ap (λ k. slice_set (pairs_of c.loop-due.nodes) k None)
    (get_or_default c.loop-due.actors (c.args.actor.0 + 1) 0 nil within) in
    let f : count_by is_free (pairs_of c.unlink.new.nodes) ≡ count_by is_free (pairs_of c.loop-due.nodes) + 1 =
    ap (count_by is_free) e ∙ one_more (pairs_of c.loop-due.nodes) (head_of c.loop-due.actors (c.args.actor.0 + 1)) c.in-Some.due
    (map_get c.loop-due.nodes (head_of c.loop-due.actors (c.args.actor.0 + 1)) ∙ sym c.in-Some.ensures) in
    record {
      sound = c.unlink.ensures.sound;
      apart = c.unlink.ensures.apart;
      leasts = c.unlink.ensures.leasts;
      free = omega (arith, f, c.loop-due.invariant.free);
      left = ap (λ s. without_actor c.args.actor (sorted s)) e ∙ step_left c.loop-due.nodes c.loop-due.ticks c.loop-due.actors c.args.actor
          c.in-Some.due c.loop-due.invariant.sound c.loop-due.invariant.apart (sym c.in-Some.ensures) ∙ c.loop-due.invariant.left;
      count = omega (
        arith,
        ap (λ s. length (ticks_of c.args.actor (sorted s))) e,
        c.unlink.ensures.step,
        c.loop-due.invariant.count,
        step_count c.loop-due.nodes c.loop-due.ticks c.loop-due.actors c.args.actor c.in-Some.due c.loop-due.invariant.sound
            c.loop-due.invariant.apart (sym c.in-Some.ensures),
      );
    }

pub returns-clause-left : goal.returns-clause-left
returns-clause-left g c =
    let none : pair_at c.loop-due.nodes (head_of c.loop-due.actors (c.args.actor.0 + 1)) ≡ None = sym c.first.ensures ∙ c.in_default.is in
    sym (all_left c.loop-due.nodes c.loop-due.ticks c.loop-due.actors c.args.actor.0 c.loop-due.invariant.sound none) ∙ c.loop-due.invariant.left

pub returns-clause-leasts : goal.returns-clause-leasts
returns-clause-leasts g c = c.loop-due.invariant.leasts

pub returns-clause-free : goal.returns-clause-free
returns-clause-free g c = c.loop-due.invariant.free

pub returns-clause-count : goal.returns-clause-count
returns-clause-count g c =
    let none : pair_at c.loop-due.nodes (head_of c.loop-due.actors (c.args.actor.0 + 1)) ≡ None = sym c.first.ensures ∙ c.in_default.is in
    omega (
      arith,
      none_left c.loop-due.nodes c.loop-due.ticks c.loop-due.actors c.args.actor.0 c.loop-due.invariant.sound none,
      c.loop-due.invariant.count,
    )

pub unlink-requires-clause-leasts : goal.unlink-requires-clause-leasts
unlink-requires-clause-leasts g c = c.loop-due.invariant.leasts
