use Rattle.std.proofs.Common.{arith}
use Rattle.round_cost.proofs.Dealt.{all_can_act, joint_weight}
use Rattle.round_cost.proofs.moments.close_one.Goals as goal

pub act_all-requires-clause-can : goal.act_all-requires-clause-can
act_all-requires-clause-can c = all_can_act _ _ _ c.in_ok-round.ensures.hands

pub finish-requires-clause-whole : goal.finish-requires-clause-whole
finish-requires-clause-whole c =
    let whole = joint_weight _ _ c.in_ok-hands-3.ensures.one in
    let count = c.in_ok-hands-3.ensures.count in
    let dealt = c.in_ok-hands-2.ensures.whole in
    omega arith
