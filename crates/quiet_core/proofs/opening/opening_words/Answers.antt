use Rattle.std.proofs.Common.{◌≡◌, ◌<◌, length, get_or, ap, arith}
use Rattle.quiet_core.specs.Account.{root, parent}
use Rattle.quiet_core.proofs.Counted.{below_few, leafy_counted, counted_more, counted_opens, reads}
use Rattle.quiet_core.proofs.opening.opening_words.Goals as goal

pub loop-child-init : goal.loop-child-init
loop-child-init c = leafy_counted _ c.requires.sized _ c.in_ok-words.ensures

pub overflow_add-sum : goal.overflow_add-sum
overflow_add-sum c =
    let t = c.args.frame.now in
    let ws = c.loop-child.words.items in
    let z = c.requires.sized in
    let lt : c.loop-child.child < root t = omega arith in
    let low = z.parents_inner c.loop-child.child lt in
    let high = z.parents_below c.loop-child.child lt in
    let wide = c.loop-child.invariant.wide in
    let p = c.parent-parent.ensures in
    let in_ : c.parent-parent.result < length ws = omega arith in
    let x = reads ws c.parent-parent.result c.index-in-loop-child.result.now in_ c.index-in-loop-child.ensures in
    let e = ap (λ k. get_or ws k 0) p in
    let i = c.loop-child.invariant.inner (parent t c.loop-child.child) low high in
    let few = below_few t ws (parent t c.loop-child.child) c.loop-child.child in
    let nodes = z.few_nodes in
    omega arith

pub loop-child-preserved : goal.loop-child-preserved
loop-child-preserved c =
    let t = c.args.frame.now in
    let ws = c.loop-child.words.items in
    let z = c.requires.sized in
    let lt : c.loop-child.child < root t = omega arith in
    let high = z.parents_below c.loop-child.child lt in
    let wide = c.loop-child.invariant.wide in
    let p = c.parent-parent.ensures in
    let in_ : c.parent-parent.result < length ws = omega arith in
    let in_c : c.loop-child.child < length ws = omega arith in
    let x = reads ws c.parent-parent.result c.index-in-loop-child.result.now in_ c.index-in-loop-child.ensures in
    let y = reads ws c.loop-child.child c.index.result.now in_c c.index.ensures in
    rw (x, c.min-one.ensures, y, p) (counted_more t z ws c.loop-child.child c.loop-child.invariant lt)

pub returns : goal.returns
returns c =
    let t = c.args.frame.now in
    let is : c.loop-child.child ≡ root t = omega arith in
    counted_opens t c.requires.sized c.loop-child.words.items (rw is at c.loop-child.invariant) c.requires.somebody
