use Rattle.std.proofs.Common.{◌∙◌}
use Rattle.round_cost.proofs.Dealt.{joint_weight}
use Rattle.round_cost.proofs.moments.deal.Goals as goal

pub regroup-requires-clause-whole : goal.regroup-requires-clause-whole
regroup-requires-clause-whole c = joint_weight _ _ c.requires.one ∙ c.requires.whole
