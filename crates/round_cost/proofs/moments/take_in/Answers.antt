use Rattle.std.proofs.Common.{◌∙◌, arith}
use Rattle.round_cost.proofs.moments.take_in.Goals as goal

pub loop-m-preserved : goal.loop-m-preserved
loop-m-preserved c = (
  c.take_from.ensures.one,
  c.take_from.ensures.collects,
  λ k l h. c.take_from.ensures.others k (omega arith) ∙ c.loop-m.invariant.2 k (omega arith) h,
)
