use Rattle.std.proofs.Common.{refl, ◌∙◌}
use Rattle.quiescence.proofs.Readers.{claimed_fresh, other_met}
use Rattle.round_cost.proofs.moments.act_at.Goals as goal

pub returns-in_default-clause-others : goal.returns-in_default-clause-others
returns-in_default-clause-others c k ne = other_met c.args.round.now.shape c.args.m.0 k _ _ _ c.claim.ensures.claim c.in_default.not-Claimed ne ∙ c.loop.invariant.3 k ne

pub act_one-requires-clause-fresh : goal.act_one-requires-clause-fresh
act_one-requires-clause-fresh c = claimed_fresh c.args.round.now.shape _ _ _ _ _ c.in-Claimed.ensures.claim refl
