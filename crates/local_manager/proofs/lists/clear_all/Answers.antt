use Rattle.std.proofs.Common.{◌≡◌, [], arith}
use Rattle.sim_base.specs.declared.ids.ActorId.{ActorId}
use Rattle.sim_base.specs.Room.{Room}
use Rattle.local_manager.proofs.Sharing.{all_empty, below_written}
use Rattle.local_manager.proofs.lists.clear_all.Goals as goal

pub loop-list-preserved : goal.loop-list-preserved
loop-list-preserved c =
    below_written (λ k (r : Room ActorId). r.list ≡ []) c.loop-list.lists c.loop-list.list-index c.clear.new.self c.loop-list.invariant c.clear.ensures.list

pub returns-clause-empty : goal.returns-clause-empty
returns-clause-empty c = λ homes. all_empty homes c.loop-list.lists c.loop-list.list-index (omega arith) c.loop-list.invariant
