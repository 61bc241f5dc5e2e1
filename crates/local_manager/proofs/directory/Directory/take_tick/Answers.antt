use Rattle.std.proofs.Common.{◌≡◌, map, [], arith, ◌∙◌, sym}
use Rattle.std.proofs.lemmas.List.{with_items_is}
use Rattle.sim_base.specs.declared.ids.ActorId.{ActorId}
use Rattle.sim_base.specs.Room.{Room}
use Rattle.local_manager.proofs.Keeping.{entered, kept_agendas, kept_lists}
use Rattle.local_manager.proofs.Sharing.{lists_long, on_err, shared}
use Rattle.local_manager.proofs.directory.Directory.take_tick.Goals as goal

pub invariant_of-self : goal.invariant_of-self
invariant_of-self g c =
    let s = c.self.inside in
    let news = c.take_all.new.domains in
    let now = c.take_all.new.lists in
    let long = lists_long s.lists.items now s.domains.items c.self.invariant.lists_each
    (omega (arith, c.take_all.ensures.count, c.deref_mut-2.ensures.len, s.lists.ok.0)) in
    let same : news ≡ s.domains.items = c.in_err-take_all.ensures.same ∙ c.deref_mut.ensures.value in
    rw (
      with_items_is s.domains news (omega (arith, c.take_all.auto.domains, c.deref_mut.ensures.len)),
      with_items_is s.lists now (omega (arith, c.take_all.ensures.count, c.deref_mut-2.ensures.len)),
      same,
    )
    (shared s.homes.items s.loads.items s.domains.items _ (map {A = Room ActorId} (λ r. r.list) now) [] c.self.invariant long
    (c.in_err-take_all.ensures.empty s.homes.items) tt).kept

pub returns-in_err-take_all-clause-err : goal.returns-in_err-take_all-clause-err
returns-in_err-take_all-clause-err g c =
    let s = c.self.inside in
    let news = c.take_all.new.domains in
    let now = c.take_all.new.lists in
    let long = lists_long s.lists.items now s.domains.items c.self.invariant.lists_each
    (omega (arith, c.take_all.ensures.count, c.deref_mut-2.ensures.len, s.lists.ok.0)) in
    let same : news ≡ s.domains.items = c.in_err-take_all.ensures.same ∙ c.deref_mut.ensures.value in
    let all = shared s.homes.items s.loads.items s.domains.items _ (map {A = Room ActorId} (λ r. r.list) now) [] c.self.invariant long
    (c.in_err-take_all.ensures.empty s.homes.items) tt in
    on_err c.from_residual.result (rw (
      ← c.self.view_is,
      with_items_is s.domains news (omega (arith, c.take_all.auto.domains, c.deref_mut.ensures.len)),
      with_items_is s.lists now (omega (arith, c.take_all.ensures.count, c.deref_mut-2.ensures.len)),
      same,
    )
    (cc (all.scheduled)))

pub invariant_of-self-2 : goal.invariant_of-self-2
invariant_of-self-2 g c =
    let s = c.self.inside in
    let news = c.take_all.new.domains in
    let now = c.take_all.new.lists in
    let all = entered c.args.tick s.homes.items s.loads.items s.domains.items news _ (map {A = Room ActorId} (λ r. r.list) now) c.self.invariant
    (rw c.deref_mut.ensures.value at c.in_ok-take_all.ensures.left) (rw c.deref_mut.ensures.value at c.in_ok-take_all.ensures.taken) in
    rw (
      with_items_is s.domains news (omega (arith, c.take_all.auto.domains, c.deref_mut.ensures.len)),
      with_items_is s.lists now (omega (arith, c.take_all.ensures.count, c.deref_mut-2.ensures.len)),
    )
    (kept_lists s.homes.items s.loads.items news _ (map {A = Room ActorId} (λ r. r.list) now)
    (kept_agendas s.homes.items s.loads.items s.domains.items news _ c.self.invariant all.dues.count all.dues.split)
    (all.count ∙ sym all.dues.count) all.ids)

pub returns-clause-ok : goal.returns-clause-ok
returns-clause-ok g c =
    let s = c.self.inside in
    let news = c.take_all.new.domains in
    let now = c.take_all.new.lists in
    let all = entered c.args.tick s.homes.items s.loads.items s.domains.items news _ (map {A = Room ActorId} (λ r. r.list) now) c.self.invariant
    (rw c.deref_mut.ensures.value at c.in_ok-take_all.ensures.left) (rw c.deref_mut.ensures.value at c.in_ok-take_all.ensures.taken) in
    rw (
      ← c.self.view_is,
      with_items_is s.domains news (omega (arith, c.take_all.auto.domains, c.deref_mut.ensures.len)),
      with_items_is s.lists now (omega (arith, c.take_all.ensures.count, c.deref_mut-2.ensures.len)),
    )
    (cc (all.dues.joined, all.scheduled))
