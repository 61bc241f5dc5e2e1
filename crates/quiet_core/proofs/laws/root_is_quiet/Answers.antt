use Rattle.quiet_core.proofs.Lawful.{root_tells}
use Rattle.quiet_core.proofs.laws.root_is_quiet.Goals as goal

pub returns : goal.returns
returns c = root_tells
