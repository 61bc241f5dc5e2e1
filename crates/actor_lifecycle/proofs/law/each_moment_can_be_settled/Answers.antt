use Rattle.std.proofs.Common.{subst}
use Rattle.sim_model.specs.Setups.{IsSetup}
use Rattle.sim_model.proofs.Keeping.{run_whole}
use Rattle.actor_lifecycle.proofs.Settled.{can_settle}
use Rattle.actor_lifecycle.proofs.law.each_moment_can_be_settled.Goals as goal

pub returns : goal.returns
returns g c = can_settle g.A.Actor.meaning _
    (run_whole g.A.Actor.meaning g.met.A.Actor.lawful c.args.setup.now (subst (λ s. IsSetup s) c.setup.view_is c.setup.invariant) c.args.moments)
