use Rattle.std.proofs.Common.{◌≡◌, replicate}
use Rattle.local_manager.proofs.directory.no_loads.Given as goal

abbrev pub invariant-loop-m : goal.invariant-loop-m
invariant-loop-m l = l.loads.items ≡ replicate l._m 0
