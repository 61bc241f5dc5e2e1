use Rattle.std.proofs.Common.{◌+◌, ◌≤◌, ◌∙◌, length, arith}
use Rattle.std.proofs.lemmas.Grind.{common_steps}
use Rattle.sim_base.proofs.Sent.{appends_piece}
use Rattle.sim_base.proofs.sink.write_all_of.Goals as goal

pub loop-at-preserved : goal.loop-at-preserved
loop-at-preserved g c =
    let fits : c.loop-at.at + c.in-Bytes.n ≤ length c.args.bytes.now = grind (arith, common_steps, c.in-Bytes.ensures) in
    (fits, appends_piece _ _ _ c.args.bytes.now _ _ fits c.loop-at.invariant.1 c.in-Bytes.ensures.bytes, c.in-Bytes.ensures.cause ∙ c.loop-at.invariant.2)
