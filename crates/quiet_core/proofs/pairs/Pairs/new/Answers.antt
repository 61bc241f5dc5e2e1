use Rattle.std.proofs.Common.{refl}
use Rattle.quiet_core.specs.Account.{most_managers}
use Rattle.quiet_core.proofs.pairs.Pairs.new.Goals as goal

pub returns : goal.returns
unfolding most_managers
returns c = refl
