use Rattle.sim_model.proofs.Calm.{sends_fit}
use Rattle.sim_model.proofs.run.judge.Goals as goal

pub close-requires-clause-sends : goal.close-requires-clause-sends
close-requires-clause-sends g c =
    sends_fit g.A.Actor.meaning c.args.world.now.parameters.max_actors _ c.args.at c.args.reports.now.items
    (rw c.deref.ensures.value at c.in-Ok.ensures.none)
