use Rattle.std.proofs.Common.{refl}
use Rattle.sim_model.proofs.Lists.{filter_map_pushed}
use Rattle.sim_model.proofs.world.WorldState.reports.Goals as goal

pub loop-id-preserved : goal.loop-id-preserved
loop-id-preserved g c =
    filter_map_pushed _ c.as_slice-scheduled.result.now _ _ _ _ _ c.loop-id-test.true c.loop-id.invariant refl c.in_ok-report.ensures
