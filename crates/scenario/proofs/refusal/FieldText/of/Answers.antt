use Rattle.scenario.proofs.Lists.{placed}
use Rattle.scenario.proofs.refusal.FieldText.of.Goals as goal

pub invariant_of-result : goal.invariant_of-result
invariant_of-result c =
    let p = placed _ c.args.name.now _ c.min-len.ensures c.copy_from_slice.ensures.after in
    (p.short, p.long, p.rest)

pub returns : goal.returns
returns c = (placed _ c.args.name.now _ c.min-len.ensures c.copy_from_slice.ensures.after).front
