use Rattle.work_claims.proofs.Sends.{none_in_all}
use Rattle.work_claims.proofs.sending.Sending.of.Goals as goal

pub returns-then-is_some-clause-total : goal.returns-then-is_some-clause-total
returns-then-is_some-clause-total g c = none_in_all (g.W.Scene.placed c.args.world.now).managers
