use Rattle.quiet_core.proofs.Lawful.{moves_keep}
use Rattle.quiet_core.proofs.laws.moves_keep_balance.Goals as goal

pub returns : goal.returns
returns c = moves_keep
