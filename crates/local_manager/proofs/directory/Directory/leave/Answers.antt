use Rattle.std.proofs.Common.{map, [], arith}
use Rattle.std.proofs.lemmas.List.{with_items_is}
use Rattle.sim_base.specs.declared.ids.ActorId.{ActorId}
use Rattle.sim_base.specs.Room.{Room}
use Rattle.local_manager.proofs.Sharing.{lists_long, shared}
use Rattle.local_manager.proofs.directory.Directory.leave.Goals as goal

pub invariant_of-self : goal.invariant_of-self
invariant_of-self g c =
    let s = c.self.inside in
    let now = c.clear_all.new.lists in
    let long = lists_long s.lists.items now s.domains.items c.self.invariant.lists_each (omega (arith, c.clear_all.ensures.count, c.deref_mut.ensures.len, s.lists.ok.0)) in
    rw (with_items_is s.lists now (omega (arith, c.clear_all.ensures.count, c.deref_mut.ensures.len)))
    (shared s.homes.items s.loads.items s.domains.items _ (map {A = Room ActorId} (λ r. r.list) now) [] c.self.invariant long
    (c.clear_all.ensures.empty s.homes.items) tt).kept

pub returns : goal.returns
returns g c =
    let s = c.self.inside in
    let now = c.clear_all.new.lists in
    let long = lists_long s.lists.items now s.domains.items c.self.invariant.lists_each (omega (arith, c.clear_all.ensures.count, c.deref_mut.ensures.len, s.lists.ok.0)) in
    let all = shared s.homes.items s.loads.items s.domains.items _ (map {A = Room ActorId} (λ r. r.list) now) [] c.self.invariant long
    (c.clear_all.ensures.empty s.homes.items) tt in
    rw (← c.self.view_is, with_items_is s.lists now (omega (arith, c.clear_all.ensures.count, c.deref_mut.ensures.len))) (cc (all.scheduled))
