use Rattle.std.proofs.Common.{◌≡◌, ◌<◌, ℕ, length, map, Some, slice_get}
use Rattle.sim_base.specs.declared.ids.ActorId.{ActorId}
use Rattle.sim_base.specs.Room.{Room}
use Rattle.local_manager.proofs.Sharing.{HasRoom}
use Rattle.local_manager.proofs.lists.reserve_due.Given as goal

abbrev pub invariant-loop-m : goal.invariant-loop-m
invariant-loop-m g l = record {
  long : length l.lists ≡ length l.fn.lists;
  same : map (λ r. r.list) l.lists ≡ map (λ r. r.list) l.fn.lists;
  room : (k : ℕ) (r : Room ActorId) → k < l.m → slice_get l.lists k ≡ Some r → HasRoom l.tick l.domains k r;
}
