use Rattle.std.proofs.Common.{arith, ◌∙◌}
use Rattle.local_manager.proofs.Joining.{scheduled_count}
use Rattle.local_manager.proofs.directory.Directory.count_scheduled.Goals as goal

pub count_items-requires : goal.count_items-requires
count_items-requires g c =
    let s = c.self.inside in
    let few = rw (← c.self.view_is) at c.requires in
    rw c.deref.ensures.value (omega (arith, few, scheduled_count s.homes.items s.loads.items s.domains.items s.lists.items c.self.invariant))

pub returns : goal.returns
returns g c =
    let s = c.self.inside in
    rw (← c.self.view_is) (rw c.deref.ensures.value at c.count_items.ensures
    ∙ scheduled_count s.homes.items s.loads.items s.domains.items s.lists.items c.self.invariant)
