use Rattle.std.proofs.Common.{◌≡◌, [], replicate}
use Rattle.tick_advance.proofs.log.Log.new.Given as goal

abbrev pub invariant-loop-m : goal.invariant-loop-m
invariant-loop-m g l = l.buffers.items ≡ replicate l._m []
