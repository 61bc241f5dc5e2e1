use Rattle.std.proofs.Common.{arith, ◌∙◌}
use Rattle.quiescence.proofs.Keeping.{joint_reported_fits, joint_acked_fits, joint_hand, met_apart}
use Rattle.quiescence.proofs.Learns.{learnt}
use Rattle.quiescence.proofs.round.Round.unite.Goals as goal

pub overflow_add-hand : goal.overflow_add-hand
overflow_add-hand c =
    let l = joint_reported_fits _ _ _ _ _ _ _ _ _ _ _ _ c.hand.view_is c.from.view_is c.requires.of.0 c.requires.of.1 c.hand.invariant c.from.invariant (c.see.ensures.same ∙ c.join.ensures.joined) c.see.ensures.stands in
    omega arith

pub overflow_add-hand-2 : goal.overflow_add-hand-2
overflow_add-hand-2 c =
    let l = joint_acked_fits _ _ _ _ _ _ _ _ _ _ _ _ c.hand.view_is c.from.view_is c.requires.of.0 c.requires.of.1 c.hand.invariant c.from.invariant
    (c.see.ensures.same ∙ c.join.ensures.joined) c.see.ensures.stands in
    omega arith

pub invariant_of-hand : goal.invariant_of-hand
invariant_of-hand c = joint_hand _ _ _ _ _ _ _ _ _ _ _ _ c.hand.view_is c.from.view_is c.requires.of.0 c.requires.of.1 c.hand.invariant c.from.invariant (c.see.ensures.same ∙ c.join.ensures.joined) c.see.ensures.stands

pub returns-clause-apart : goal.returns-clause-apart
returns-clause-apart c = met_apart _ _ _ _ _ _ _ _ _ _ _ _ c.hand.view_is c.from.view_is c.requires.of.0 c.requires.of.1 c.hand.invariant c.from.invariant (c.see.ensures.same ∙ c.join.ensures.joined) c.see.ensures.stands

pub returns-clause-learnt : goal.returns-clause-learnt
returns-clause-learnt c = learnt _ _ c.see.ensures.stands
