use Rattle.std.proofs.Common.{◌≡◌, ◌+◌}
use Rattle.quiet_core.proofs.Blends.{blend_below}
use Rattle.quiet_core.proofs.rows.add_row.Given as goal

abbrev pub invariant-loop-n : goal.invariant-loop-n
invariant-loop-n l = l.into ≡ blend_below ◌+◌ l.n l.initial.into l.from
