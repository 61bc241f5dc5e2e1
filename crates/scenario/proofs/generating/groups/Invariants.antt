use Rattle.std.proofs.Common.{◌≡◌}
use Rattle.scenario.specs.Generated.{first_groups}
use Rattle.scenario.proofs.generating.groups.Given as goal

abbrev pub invariant-loop-g : goal.invariant-loop-g
invariant-loop-g l = l.starts.items ≡ first_groups l.n l.g
