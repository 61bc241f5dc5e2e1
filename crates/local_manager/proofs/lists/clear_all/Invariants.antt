use Rattle.std.proofs.Common.{◌≡◌, ◌<◌, ℕ, [], Some, slice_get}
use Rattle.sim_base.specs.declared.ids.ActorId.{ActorId}
use Rattle.sim_base.specs.Room.{Room}
use Rattle.local_manager.proofs.lists.clear_all.Given as goal

abbrev pub invariant-loop-list : goal.invariant-loop-list
invariant-loop-list l = (k : ℕ) (r : Room ActorId) → k < l.list-index → slice_get l.lists k ≡ Some r → r.list ≡ []
