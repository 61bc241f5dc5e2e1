use Rattle.std.proofs.Common.{◌≡◌, ◌<◌, ℕ, length, slice_index}
use Rattle.work_claims.specs.Placed.{scheduled_at}
use Rattle.work_claims.proofs.moment.count_scheduled.Given as goal

abbrev pub invariant-loop-m : goal.invariant-loop-m
invariant-loop-m g l = record {
  wide : length l.counts ≡ 16;
  each : (k : ℕ) → k < l.m → slice_index l.counts k ≡ length (scheduled_at (g.W.Scene.placed l.world) k);
}
