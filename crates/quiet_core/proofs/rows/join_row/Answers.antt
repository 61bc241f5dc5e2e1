use Rattle.std.proofs.Common.{◌≤◌, ◌<◌, ◌∙◌, arith, length, refl, ◌||◌, false}
use Rattle.quiet_core.proofs.Blends.{all_below, one_more}
use Rattle.quiet_core.proofs.rows.join_row.Goals as goal

pub loop-n-preserved : goal.loop-n-preserved
loop-n-preserved c =
    let lt : c.loop-n.n < length c.args.into.now = omega arith in
    one_more ◌||◌ c.loop-n.into c.args.into.now c.args.from.now c.loop-n.n _ false c.loop-n.invariant c.requires lt refl

pub returns : goal.returns
returns c =
    let all : length c.args.into.now ≤ c.loop-n.n = omega arith in
    c.loop-n.invariant ∙ all_below ◌||◌ c.loop-n.n c.args.into.now c.args.from.now c.requires all
