use Rattle.std.proofs.Common.{◌≡◌, replicate}
use Rattle.quiet_core.specs.Account.{blank, no_actors}
use Rattle.quiet_core.proofs.accounts.new_ledgers.Given as goal

abbrev pub invariant-loop-hand : goal.invariant-loop-hand
invariant-loop-hand l = l.ledgers.items ≡ replicate l._hand (record (blank no_actors) { weight = 1 })
