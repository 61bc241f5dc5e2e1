use Rattle.std.proofs.Common.{◌+◌, ◌++◌, List, ℕ, length, slice_index_or, [], sym, ap, ◌∙◌, subst, arith}
use Rattle.std.proofs.lemmas.List.{get_or_default}
use Rattle.agenda_wheel.specs.Nodes.{nil, next_of}
use Rattle.agenda_wheel.specs.Seen.{tick_in}
use Rattle.agenda_wheel.specs.Wheel.{pair_at}
use Rattle.agenda_wheel.specs.declared.links.Node.{Node}
use Rattle.agenda_wheel.specs.declared.links.Side.TheVariants as side
use Rattle.agenda_wheel.proofs.Looking.{Pushing, push_begin, push_next, push_end, read_at}
use Rattle.agenda_wheel.proofs.Seeing.{Ahead}
use Rattle.agenda_wheel.proofs.walks.ticks_from.Goals as goal

pub loop-at-init : goal.loop-at-init
loop-at-init c =
    subst (λ (ts : List ℕ). Ahead (next_of side.Actor c.args.nodes.now) (pair_at c.args.nodes.now) nil
    (slice_index_or c.args.actors.now (c.args.actor.0 + 1) 0) (length c.args.nodes.now) (Pushing c.args.nodes.now c.args.actor ts))
    (sym c.new-ticks.ensures.items)
    (subst (λ a. Ahead (next_of side.Actor c.args.nodes.now) (pair_at c.args.nodes.now) nil a (length c.args.nodes.now)
    (Pushing c.args.nodes.now c.args.actor []))
    (sym (get_or_default c.args.actors.now (c.args.actor.0 + 1) 0 nil c.requires.known))
    (push_begin c.args.nodes.now c.requires.small c.requires.apart c.args.actors.now c.args.actor c.requires.linked))

pub overflow_sub-left : goal.overflow_sub-left
overflow_sub-left c =
    let n = read_at c.args.nodes.now c.loop-at.at c.loop-at-test.true in
    let m = c.in_ok-push_tick.ensures ∙ ap (λ (n : Node). c.loop-at.ticks.items ++ tick_in n.pair) n in
    let s = push_next c.args.nodes.now c.requires.small c.requires.apart c.args.actor c.loop-at.at c.loop-at.left c.loop-at.ticks.items
    c.push_tick.new.ticks.items c.loop-at-test.true m c.loop-at.invariant in
    omega (arith, s.0)

pub loop-at-smaller : goal.loop-at-smaller
loop-at-smaller c =
    let n = read_at c.args.nodes.now c.loop-at.at c.loop-at-test.true in
    let m = c.in_ok-push_tick.ensures ∙ ap (λ (n : Node). c.loop-at.ticks.items ++ tick_in n.pair) n in
    let s = push_next c.args.nodes.now c.requires.small c.requires.apart c.args.actor c.loop-at.at c.loop-at.left c.loop-at.ticks.items
    c.push_tick.new.ticks.items c.loop-at-test.true m c.loop-at.invariant in
    omega (arith, s.0)

pub loop-at-preserved : goal.loop-at-preserved
loop-at-preserved c =
    let n = read_at c.args.nodes.now c.loop-at.at c.loop-at-test.true in
    let m = c.in_ok-push_tick.ensures ∙ ap (λ (n : Node). c.loop-at.ticks.items ++ tick_in n.pair) n in
    let s = push_next c.args.nodes.now c.requires.small c.requires.apart c.args.actor c.loop-at.at c.loop-at.left c.loop-at.ticks.items
    c.push_tick.new.ticks.items c.loop-at-test.true m c.loop-at.invariant in
    rw n s.1

pub returns : goal.returns
returns c =
    push_end c.args.nodes.now c.requires.small c.requires.apart c.args.actor c.loop-at.at c.loop-at.left c.loop-at.ticks.items
    c.sort_unstable.new.self.items c.loop-at-test.false c.loop-at.invariant
    c.sort_unstable.ensures.sorted c.sort_unstable.ensures.permutation
