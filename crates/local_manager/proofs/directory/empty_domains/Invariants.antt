use Rattle.std.proofs.Common.{◌≡◌, [], replicate}
use Rattle.local_manager.proofs.directory.empty_domains.Given as goal

abbrev pub invariant-loop-m : goal.invariant-loop-m
invariant-loop-m g l = l.domains.items ≡ replicate l._m []
