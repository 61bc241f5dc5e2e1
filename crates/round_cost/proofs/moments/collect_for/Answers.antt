use Rattle.std.proofs.Common.{ap, ◌∙◌}
use Rattle.quiet_core.specs.Account.{Account, collects}
use Rattle.quiet_core.proofs.Sums.{put_here}
use Rattle.round_cost.proofs.moments.collect_for.Goals as goal

pub take_in-requires-clause-collects : goal.take_in-requires-clause-collects
take_in-requires-clause-collects c = ap (λ (a : Account). collects a c.args.to.0) c.in-Yours.ensures.turn.1 ∙ put_here 0 c.is_awaited.new.hand.account.collected c.args.to.0 1
