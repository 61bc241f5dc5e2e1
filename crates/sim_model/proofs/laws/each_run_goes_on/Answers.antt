use Rattle.std.proofs.Common.{subst}
use Rattle.sim_model.specs.Setups.{IsSetup}
use Rattle.sim_model.proofs.Forward.{run_goes_on}
use Rattle.sim_model.proofs.laws.each_run_goes_on.Goals as goal

pub returns : goal.returns
returns g c = run_goes_on g.A.Actor.meaning c.args.setup.now (subst (λ s. IsSetup s) c.setup.view_is c.setup.invariant) c.args.moments c.args.further
