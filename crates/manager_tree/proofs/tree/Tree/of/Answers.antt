use Rattle.std.proofs.Common.{arith}
use Rattle.manager_tree.proofs.Limits.{InLimits}
use Rattle.manager_tree.proofs.Built.{built_all, built_more, built_rises, is_small}
use Rattle.manager_tree.proofs.Shapes.{IsIndex-built, IsTree-built}
use Rattle.manager_tree.proofs.tree.Tree.of.Goals as goal

pub overflow_add-next : goal.overflow_add-next
overflow_add-next c =
    let limits : InLimits c.args.leaves c.args.fanout = search c.requires in
    let small = is_small _ _ _ _ _ _ _ _ limits c.loop-width.invariant in
    omega (arith, small.nodes)

pub push_parents-requires-clause-fits : goal.push_parents-requires-clause-fits
push_parents-requires-clause-fits c =
    let limits : InLimits c.args.leaves c.args.fanout = search c.requires in
    let small = is_small _ _ _ _ _ _ _ _ limits c.loop-width.invariant in
    omega (arith, small.nodes)

pub push_begins-requires : goal.push_begins-requires
push_begins-requires c =
    let limits : InLimits c.args.leaves c.args.fanout = search c.requires in
    let small = is_small _ _ _ _ _ _ _ _ limits c.loop-width.invariant in
    rw c.div_ceil-above.ensures (omega (arith, small.above))

pub overflow_add-level : goal.overflow_add-level
overflow_add-level c =
    let limits : InLimits c.args.leaves c.args.fanout = search c.requires in
    let small = is_small _ _ _ _ _ _ _ _ limits c.loop-width.invariant in
    omega (arith, small.height, c.loop-width.invariant.within)

pub loop-width-preserved : goal.loop-width-preserved
loop-width-preserved c =
    let limits : InLimits c.args.leaves c.args.fanout = search c.requires in
    built_more _ _ _ _ _ _ _ _ _ _ _ _ limits c.loop-width.invariant c.loop-width-test.true c.div_ceil-above.ensures
    c.in_ok-push_parents.ensures (rw (← c.loop-width.levels.ok.0) c.in_ok-resize.ensures.items) c.in_ok-push_begins.ensures

pub loop-width-smaller : goal.loop-width-smaller
loop-width-smaller c =
    let limits : InLimits c.args.leaves c.args.fanout = search c.requires in
    omega (arith, built_rises _ _ _ _ _ _ _ _ limits c.loop-width.invariant c.loop-width-test.true)

pub invariant_of-result : goal.invariant_of-result
invariant_of-result c =
    let limits : InLimits c.args.leaves c.args.fanout = search c.requires in
    let done = built_all _ _ _ _ _ _ _ _ _ _ limits c.loop-width.invariant c.loop-width-test.false c.in_ok-push.ensures.items c.in_ok-push-2.ensures.items in
    (IsTree-built _ _ _ _ _ _ limits done, IsIndex-built _ _ _ _ _ _ _ limits done c.in_ok-nodes_below.ensures)

pub returns-clause-shape : goal.returns-clause-shape
returns-clause-shape c =
    let limits : InLimits c.args.leaves c.args.fanout = search c.requires in
    let done = built_all _ _ _ _ _ _ _ _ _ _ limits c.loop-width.invariant c.loop-width-test.false c.in_ok-push.ensures.items c.in_ok-push-2.ensures.items in
    done.shape

pub returns-clause-tree : goal.returns-clause-tree
returns-clause-tree c =
    let limits : InLimits c.args.leaves c.args.fanout = search c.requires in
    let done = built_all _ _ _ _ _ _ _ _ _ _ limits c.loop-width.invariant c.loop-width-test.false c.in_ok-push.ensures.items c.in_ok-push-2.ensures.items in
    IsTree-built _ _ _ _ _ _ limits done
