use Rattle.std.proofs.Common.{refl}
use Rattle.quiet_core.specs.Account.{most_managers, most_nodes}
use Rattle.quiet_core.proofs.ledger.Ledger.new.Goals as goal

pub returns : goal.returns
unfolding most_managers most_nodes
returns c = rw (c.new.ensures, c.new-2.ensures, c.new-3.ensures) refl
