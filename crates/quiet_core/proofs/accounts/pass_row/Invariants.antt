use Rattle.std.proofs.Common.{◌≡◌}
use Rattle.quiet_core.specs.Entries.{passed}
use Rattle.quiet_core.proofs.Passes.{map_below}
use Rattle.quiet_core.proofs.accounts.pass_row.Given as goal

abbrev pub invariant-loop-n : goal.invariant-loop-n
invariant-loop-n l = l.row.items ≡ map_below (passed l.from l.to) l.n l.initial.row.items
