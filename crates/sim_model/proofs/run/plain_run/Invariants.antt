use Rattle.std.proofs.Common.{◌-◌}
use Rattle.sim_model.specs.Run.{most_moments}
use Rattle.sim_model.specs.Setups.{parameters_of}
use Rattle.sim_model.proofs.Forward.{rank}
use Rattle.sim_model.proofs.Reaching.{Reached}
use Rattle.sim_model.proofs.run.plain_run.Given as goal

abbrev pub invariant-loop-room : goal.invariant-loop-room
invariant-loop-room g l = Reached g.A.Actor.meaning l.setup l.underway

abbrev pub decreases-loop-room : goal.decreases-loop-room
decreases-loop-room g l = most_moments l.setup - rank (parameters_of l.setup) l.underway.next
