use Rattle.std.proofs.Common.{map, [], arith}
use Rattle.std.proofs.lemmas.List.{with_items_is}
use Rattle.sim_base.specs.declared.ids.ActorId.{ActorId}
use Rattle.sim_base.specs.Room.{Room}
use Rattle.local_manager.proofs.Sharing.{lists_long, on_err, rises_ascend, shared}
use Rattle.local_manager.proofs.directory.Directory.schedule.Goals as goal

pub invariant_of-self : goal.invariant_of-self
invariant_of-self g c =
    let s = c.self.inside in
    let now = c.share.new.lists in
    let long = lists_long s.lists.items now s.domains.items c.self.invariant.lists_each (omega (arith, c.share.ensures.count, c.deref_mut.ensures.len, s.lists.ok.0)) in
    rw (with_items_is s.lists now (omega (arith, c.share.ensures.count, c.deref_mut.ensures.len)))
    (shared s.homes.items s.loads.items s.domains.items _ (map {A = Room ActorId} (λ r. r.list) now) [] c.self.invariant long
    c.in_err-share.ensures.empty tt).kept

pub returns-in_err-share-clause-err : goal.returns-in_err-share-clause-err
returns-in_err-share-clause-err g c =
    let s = c.self.inside in
    let now = c.share.new.lists in
    let long = lists_long s.lists.items now s.domains.items c.self.invariant.lists_each (omega (arith, c.share.ensures.count, c.deref_mut.ensures.len, s.lists.ok.0)) in
    let all = shared s.homes.items s.loads.items s.domains.items _ (map {A = Room ActorId} (λ r. r.list) now) [] c.self.invariant long
    c.in_err-share.ensures.empty tt in
    on_err c.from_residual.result
    (rw (← c.self.view_is, with_items_is s.lists now (omega (arith, c.share.ensures.count, c.deref_mut.ensures.len))) (cc (all.scheduled)))

pub invariant_of-self-2 : goal.invariant_of-self-2
invariant_of-self-2 g c =
    let s = c.self.inside in
    let now = c.share.new.lists in
    let long = lists_long s.lists.items now s.domains.items c.self.invariant.lists_each (omega (arith, c.share.ensures.count, c.deref_mut.ensures.len, s.lists.ok.0)) in
    rw (with_items_is s.lists now (omega (arith, c.share.ensures.count, c.deref_mut.ensures.len)))
    (shared s.homes.items s.loads.items s.domains.items _ (map {A = Room ActorId} (λ r. r.list) now) c.args.ids.now c.self.invariant long
    (rw c.deref.ensures.value at c.in_ok-share.ensures.split) (rises_ascend c.args.ids.now c.requires)).kept

pub returns-clause-ok : goal.returns-clause-ok
returns-clause-ok g c =
    let s = c.self.inside in
    let now = c.share.new.lists in
    let long = lists_long s.lists.items now s.domains.items c.self.invariant.lists_each (omega (arith, c.share.ensures.count, c.deref_mut.ensures.len, s.lists.ok.0)) in
    let all = shared s.homes.items s.loads.items s.domains.items _ (map {A = Room ActorId} (λ r. r.list) now) c.args.ids.now c.self.invariant long
    (rw c.deref.ensures.value at c.in_ok-share.ensures.split) (rises_ascend c.args.ids.now c.requires) in
    rw (← c.self.view_is, with_items_is s.lists now (omega (arith, c.share.ensures.count, c.deref_mut.ensures.len))) (cc (all.scheduled))
