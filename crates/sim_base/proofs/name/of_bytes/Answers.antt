use Rattle.sim_base.proofs.Given.{placed}
use Rattle.sim_base.proofs.name.of_bytes.Goals as goal

pub invariant_of-result : goal.invariant_of-result
invariant_of-result c =
    let p = placed c.args.bytes.now _ c.requires.most c.copy_from_slice.ensures.after in
    (c.requires.least, c.requires.most, p.long, p.rest)
