use Rattle.std.proofs.Common.{◌≤◌, ◌<◌, ◌∙◌, arith, length, refl, ◌+◌}
use Rattle.quiet_core.proofs.Blends.{all_below, one_more, read_so_far}
use Rattle.quiet_core.proofs.rows.add_row.Goals as goal

pub loop-n-preserved : goal.loop-n-preserved
loop-n-preserved c =
    let lt : c.loop-n.n < length c.args.into.now = omega arith in
    one_more ◌+◌ c.loop-n.into c.args.into.now c.args.from.now c.loop-n.n _ 0 c.loop-n.invariant c.requires.width lt refl

pub returns : goal.returns
returns c =
    let all : length c.args.into.now ≤ c.loop-n.n = omega arith in
    c.loop-n.invariant ∙ all_below ◌+◌ c.loop-n.n c.args.into.now c.args.from.now c.requires.width all

pub overflow_add-into : goal.overflow_add-into
overflow_add-into c =
    let lt : c.loop-n.n < length c.args.into.now = omega arith in
    let same = read_so_far ◌+◌ c.loop-n.into c.args.into.now c.args.from.now c.loop-n.n 0 c.loop-n.invariant in
    let fits = c.requires.fits c.loop-n.n lt in
    omega arith
