use Rattle.std.proofs.Common.{◌≡◌, ◌%◌, length, slice_index_or, sym, ap, ◌∙◌, subst, arith}
use Rattle.std.proofs.lemmas.List.{get_or_default}
use Rattle.agenda_wheel.specs.Nodes.{nil, next_of, head_of}
use Rattle.agenda_wheel.specs.Seen.{count_in}
use Rattle.agenda_wheel.specs.Wheel.{pair_at}
use Rattle.agenda_wheel.specs.declared.links.Node.{Node}
use Rattle.agenda_wheel.specs.declared.links.Side.TheVariants as side
use Rattle.agenda_wheel.proofs.Looking.{Counting, count_begin, count_next, count_end, count_small, read_at}
use Rattle.agenda_wheel.proofs.Seeing.{Ahead}
use Rattle.agenda_wheel.proofs.walks.count_at.Goals as goal

pub loop-at-init : goal.loop-at-init
loop-at-init c =
    let e : slice_index_or c.args.ticks.now c.bucket_of.result 0 ≡ head_of c.args.ticks.now (c.args.tick % 1024) =
    ap (λ k. slice_index_or c.args.ticks.now k 0) c.bucket_of.ensures ∙ get_or_default c.args.ticks.now (c.args.tick % 1024) 0 nil
    (omega (arith, c.requires.wheel)) in
    record {
      few = omega arith;
      ahead = subst (λ a. Ahead (next_of side.Tick c.args.nodes.now) (pair_at c.args.nodes.now) nil a (length c.args.nodes.now)
          (Counting c.args.nodes.now c.args.tick 0)) (sym e)
          (count_begin c.args.nodes.now c.requires.small c.requires.apart c.args.ticks.now c.args.tick c.requires.linked);
    }

pub overflow_add-count : goal.overflow_add-count
overflow_add-count c =
    let n = read_at c.args.nodes.now c.loop-at.at c.loop-at-test.true in
    let m = c.count_of-count.ensures ∙ ap (λ (n : Node). count_in c.args.tick n.pair) n in
    let s = count_next c.args.nodes.now c.requires.small c.requires.apart c.args.tick c.loop-at.at c.loop-at.left c.loop-at.count
    c.count_of-count.result c.loop-at-test.true m c.loop-at.invariant.ahead in
    let k = count_small c.args.tick (pair_at c.args.nodes.now c.loop-at.at) in
    omega (arith, k, m, c.loop-at.invariant.few, c.requires.small)

pub overflow_sub-left : goal.overflow_sub-left
overflow_sub-left c =
    let n = read_at c.args.nodes.now c.loop-at.at c.loop-at-test.true in
    let m = c.count_of-count.ensures ∙ ap (λ (n : Node). count_in c.args.tick n.pair) n in
    let s = count_next c.args.nodes.now c.requires.small c.requires.apart c.args.tick c.loop-at.at c.loop-at.left c.loop-at.count
    c.count_of-count.result c.loop-at-test.true m c.loop-at.invariant.ahead in
    omega (arith, s.0)

pub loop-at-smaller : goal.loop-at-smaller
loop-at-smaller c =
    let n = read_at c.args.nodes.now c.loop-at.at c.loop-at-test.true in
    let m = c.count_of-count.ensures ∙ ap (λ (n : Node). count_in c.args.tick n.pair) n in
    let s = count_next c.args.nodes.now c.requires.small c.requires.apart c.args.tick c.loop-at.at c.loop-at.left c.loop-at.count
    c.count_of-count.result c.loop-at-test.true m c.loop-at.invariant.ahead in
    omega (arith, s.0)

pub loop-at-preserved : goal.loop-at-preserved
loop-at-preserved c =
    let n = read_at c.args.nodes.now c.loop-at.at c.loop-at-test.true in
    let m = c.count_of-count.ensures ∙ ap (λ (n : Node). count_in c.args.tick n.pair) n in
    let s = count_next c.args.nodes.now c.requires.small c.requires.apart c.args.tick c.loop-at.at c.loop-at.left c.loop-at.count
    c.count_of-count.result c.loop-at-test.true m c.loop-at.invariant.ahead in
    let k = count_small c.args.tick (pair_at c.args.nodes.now c.loop-at.at) in
    record {
      few = omega (arith, k, m, c.loop-at.invariant.few, s.0);
      ahead = rw n s.1;
    }

pub returns : goal.returns
returns c = count_end c.args.nodes.now c.requires.small c.requires.apart c.args.tick c.loop-at.at c.loop-at.left c.loop-at.count
    c.loop-at-test.false c.loop-at.invariant.ahead
