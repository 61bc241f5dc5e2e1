use Rattle.std.proofs.Common.{subst}
use Rattle.sim_model.specs.Setups.{IsSetup}
use Rattle.sim_model.proofs.Keeping.{run_whole}
use Rattle.sim_model.proofs.Sampling.{run_rows}
use Rattle.sim_model.proofs.laws.each_world_is_whole.Goals as goal

pub returns-clause-whole : goal.returns-clause-whole
returns-clause-whole g c = run_whole g.A.Actor.meaning g.met.A.Actor.lawful c.args.setup.now
    (subst (λ s. IsSetup s) c.setup.view_is c.setup.invariant) c.args.moments

pub returns-clause-rows : goal.returns-clause-rows
returns-clause-rows g c = run_rows g.A.Actor.meaning g.met.A.Actor.lawful c.args.setup.now
    (subst (λ s. IsSetup s) c.setup.view_is c.setup.invariant) c.args.moments
