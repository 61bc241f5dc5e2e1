use Rattle.std.proofs.Common.{◌≡◌, length, ap, arith}
use Rattle.quiet_tests.proofs.Trials.{joint_weight, all_can_act, regrouped_length}
use Rattle.quiet_tests.proofs.running_round.four_hands.Goals as goal

pub act_all-requires-clause-can : goal.act_all-requires-clause-can
act_all-requires-clause-can g c κs _ = all_can_act _ _ 4 c.in_ok-round.ensures.hands

pub regroup-requires-clause-whole : goal.regroup-requires-clause-whole
regroup-requires-clause-whole g c =
    let whole = joint_weight _ _ c.in_ok-hands.ensures.one in
    let ok = c.in_ok-hands.hands.ok in let ok' = c.in_ok-round.hands.ok in
    let count = c.in_ok-hands.ensures.count in
    let four : length c.in_ok-round.hands.items ≡ 4 = ap length c.in_ok-round.ensures.hands in
    let hands = ap (λ t. t.hands) c.in_ok-round.ensures.shape in
    omega arith

pub finish-requires-clause-whole : goal.finish-requires-clause-whole
finish-requires-clause-whole g c =
    let whole = joint_weight _ _ c.in_ok-hands-3.ensures.one in
    let ok = c.in_ok-hands-3.hands.ok in let ok' = c.in_ok-hands-2.hands.ok in
    let count = c.in_ok-hands-3.ensures.count in
    let hands = ap (λ t. t.hands) c.in_ok-round.ensures.shape in
    let dealt = regrouped_length _ _ _ c.in_ok-hands-2.ensures.dealt in
    omega arith
