use Rattle.std.proofs.Common.{length, None, sym, ap, ◌∙◌, subst, arith}
use Rattle.std.proofs.lemmas.List.{get_or_default}
use Rattle.agenda_wheel.specs.Nodes.{nil, next_of}
use Rattle.std.specs.Option.{option_map}
use Rattle.agenda.specs.declared.due.Due.{Due}
use Rattle.agenda_wheel.specs.Wheel.{pair_at}
use Rattle.agenda_wheel.specs.declared.links.Node.{Node}
use Rattle.agenda_wheel.specs.declared.links.Side.TheVariants as side
use Rattle.agenda_wheel.proofs.Looking.{Lessening, least_begin, least_next, least_end, read_at}
use Rattle.agenda_wheel.proofs.Seeing.{Ahead}
use Rattle.agenda_wheel.proofs.walks.least_in.Goals as goal

pub loop-at-init : goal.loop-at-init
loop-at-init c =
    subst (λ a. Ahead (next_of side.Tick c.args.nodes.now) (pair_at c.args.nodes.now) nil a (length c.args.nodes.now)
    (Lessening c.args.nodes.now c.args.bucket None))
    (sym (get_or_default c.args.ticks.now c.args.bucket 0 nil (omega (arith, c.requires.wheel, c.requires.inside))))
    (least_begin c.args.nodes.now c.requires.small c.requires.apart c.args.ticks.now c.args.bucket c.requires.linked)

pub overflow_sub-left : goal.overflow_sub-left
overflow_sub-left c =
    let n = read_at c.args.nodes.now c.loop-at.at c.loop-at-test.true in
    let m = c.tick_of.ensures ∙ ap (λ (n : Node). option_map (λ (d : Due). d.tick) n.pair) n in
    let s = least_next c.args.nodes.now c.requires.small c.requires.apart c.args.bucket c.loop-at.at c.loop-at.left c.loop-at.least
    c.lesser-least.result c.tick_of.result c.loop-at-test.true m c.lesser-least.ensures c.loop-at.invariant in
    omega (arith, s.0)

pub loop-at-smaller : goal.loop-at-smaller
loop-at-smaller c =
    let n = read_at c.args.nodes.now c.loop-at.at c.loop-at-test.true in
    let m = c.tick_of.ensures ∙ ap (λ (n : Node). option_map (λ (d : Due). d.tick) n.pair) n in
    let s = least_next c.args.nodes.now c.requires.small c.requires.apart c.args.bucket c.loop-at.at c.loop-at.left c.loop-at.least
    c.lesser-least.result c.tick_of.result c.loop-at-test.true m c.lesser-least.ensures c.loop-at.invariant in
    omega (arith, s.0)

pub loop-at-preserved : goal.loop-at-preserved
loop-at-preserved c =
    let n = read_at c.args.nodes.now c.loop-at.at c.loop-at-test.true in
    let m = c.tick_of.ensures ∙ ap (λ (n : Node). option_map (λ (d : Due). d.tick) n.pair) n in
    rw n (least_next c.args.nodes.now c.requires.small c.requires.apart c.args.bucket c.loop-at.at c.loop-at.left c.loop-at.least
    c.lesser-least.result c.tick_of.result c.loop-at-test.true m c.lesser-least.ensures c.loop-at.invariant).1

pub returns : goal.returns
returns c = least_end c.args.nodes.now c.requires.small c.requires.apart c.args.bucket c.loop-at.at c.loop-at.left c.loop-at.least
    c.loop-at-test.false c.loop-at.invariant
