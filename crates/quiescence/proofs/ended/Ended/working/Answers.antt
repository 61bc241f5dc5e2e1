use Rattle.std.proofs.Common.{◌≡◌, ◌<◌, ℕ, ap, arith, add-one, ◌∙◌, length, get_or, min}
use Rattle.quiet_core.specs.Rows.{below}
use Rattle.quiet_core.specs.Account.{root}
use Rattle.quiet_core.proofs.Counted.{reads}
use Rattle.quiescence.proofs.Keeping.{done_most}
use Rattle.quiescence.proofs.ended.Ended.working.Goals as goal

pub overflow_add-count : goal.overflow_add-count
overflow_add-count c =
    let ws = c.args.self.now.words.items in
    let few = done_most (λ k. min (get_or ws k 0) 1) c.loop-node.node (λ k. omega arith) in
    let nodes = c.requires.sized.few_nodes in
    let e = c.loop-node.invariant in
    let x = c.min-count.ensures in
    omega arith

pub loop-node-preserved : goal.loop-node-preserved
loop-node-preserved c =
    let ws = c.args.self.now.words.items in
    let wide = c.requires.wide in
    let lt : c.loop-node.node < length ws = omega arith in
    let x = reads ws c.loop-node.node c.index.result.now lt c.index.ensures in
    let m = c.min-count.ensures in
    let e = c.loop-node.invariant in
    rw (add-one c.loop-node.node) (omega arith)

pub returns : goal.returns
returns c =
    let ws = c.args.self.now.words.items in
    let is : c.loop-node.node ≡ root c.args.self.now.frame = omega arith in
    c.loop-node.invariant ∙ ap (λ (n : ℕ). below (λ k. min (get_or ws k 0) 1) n) is
