use Rattle.std.proofs.Common.{◌<◌, ◌+◌, length, get_or, arith, ap, ◌∙◌}
use Rattle.std.proofs.lemmas.List.{get_or_default}
use Rattle.local_manager.proofs.Admitting.{admitted}
use Rattle.local_manager.proofs.Keeping.{below_at}
use Rattle.local_manager.proofs.directory.Directory.admit.Goals as goal

pub overflow_add-index_mut : goal.overflow_add-index_mut
overflow_add-index_mut g c =
    let s = c.self.inside in
    let few = rw (← c.self.view_is) at c.requires.room in
    let within : c.place-home.result.0 < length s.loads.items = omega (arith, c.place-home.ensures.within, ap length c.deref.ensures.value) in
    let load : get_or s.loads.items c.place-home.result.0 0 < length s.homes.items + 1 =
    below_at (length s.homes.items + 1) s.loads.items c.place-home.result.0 (omega arith) c.self.invariant.counts in
    let read = c.index_mut.ensures.value ∙ get_or_default s.loads.items c.place-home.result.0 c.index_mut.result.now 0 within in
    omega (arith, load, read, few)

pub invariant_of-self-2 : goal.invariant_of-self-2
invariant_of-self-2 g c =
    let s = c.self.inside in
    let idle = rw (← c.self.view_is) at c.requires.idle in
    let known = rw (← c.self.view_is) at c.requires.known in
    let within : c.place-home.result.0 < length s.loads.items = omega (arith, c.place-home.ensures.within, ap length c.deref.ensures.value) in
    let load : get_or s.loads.items c.place-home.result.0 0 < length s.homes.items + 1 =
    below_at (length s.homes.items + 1) s.loads.items c.place-home.result.0 (omega arith) c.self.invariant.counts in
    let read = c.index_mut.ensures.value ∙ get_or_default s.loads.items c.place-home.result.0 c.index_mut.result.now 0 within in
    rw c.in_ok-push.ensures.items (admitted s.homes.items s.loads.items s.domains.items _ c.place-home.result.0 (c.index_mut.result.now + 1) c.self.invariant
    (omega (arith, within, c.self.invariant.loads_each)) (omega (arith, load, read)) known idle)
