use Rattle.std.proofs.Common.{◌≤◌, ◌<◌, ◌∙◌, arith, length, max}
use Rattle.quiet_core.proofs.Blends.{all_below, one_more}
use Rattle.quiet_core.proofs.rows.rise_row.Goals as goal

pub loop-n-preserved : goal.loop-n-preserved
loop-n-preserved c =
    let lt : c.loop-n.n < length c.args.into.now = omega arith in
    one_more max c.loop-n.into c.args.into.now c.args.from.now c.loop-n.n _ 0 c.loop-n.invariant c.requires lt c.max.ensures

pub returns : goal.returns
returns c =
    let all : length c.args.into.now ≤ c.loop-n.n = omega arith in
    c.loop-n.invariant ∙ all_below max c.loop-n.n c.args.into.now c.args.from.now c.requires all
