use Rattle.work_claims.proofs.Phases.{not_dealt}
use Rattle.work_claims.proofs.collect_together.collect_together.Goals as goal

pub collect_last-requires-clause-gathered : goal.collect_last-requires-clause-gathered
collect_last-requires-clause-gathered g c = rw c.new.ensures
    (not_dealt g.A.Actor.meaning (g.W.Scene.placed c.args.world.now) c.args.round.now c.args.reports.now c.args.hand c.requires.ready)
