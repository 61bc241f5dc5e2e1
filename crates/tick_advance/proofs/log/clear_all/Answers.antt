use Rattle.std.proofs.Common.{◌∙◌, [], ap, arith, set}
use Rattle.std.proofs.Math.Numerals.{add-one}
use Rattle.tick_advance.proofs.Rows.{emptied_more}
use Rattle.tick_advance.proofs.log.clear_all.Goals as goal

pub loop-buffer-preserved : goal.loop-buffer-preserved
loop-buffer-preserved c =
    let more = emptied_more c.args.buffers.now c.loop-buffer.buffer-index (omega arith) in
    rw (c.clear.ensures, add-one) (ap (λ bs. set bs c.loop-buffer.buffer-index []) c.loop-buffer.invariant ∙ more)
