use Rattle.std.proofs.Common.{◌<◌, ◌≤◌, ◌∙◌, length, arith}
use Rattle.quiet_core.specs.Entries.{passed}
use Rattle.quiet_core.proofs.Passes.{all_passed, one_passed}
use Rattle.quiet_core.proofs.accounts.pass_row.Goals as goal

pub loop-n-preserved : goal.loop-n-preserved
loop-n-preserved c =
    let lt : c.loop-n.n < length c.args.row.now.items = omega arith in
    one_passed (passed c.args.from c.args.to) c.loop-n.row.items c.args.row.now.items c.loop-n.n c.index-entry.result.now c.passed.result c.loop-n.invariant lt c.index-entry.ensures c.passed.ensures

pub returns : goal.returns
returns c =
    let all : length c.args.row.now.items ≤ c.loop-n.n = omega arith in
    c.loop-n.invariant ∙ all_passed (passed c.args.from c.args.to) c.loop-n.n c.args.row.now.items all
