use Rattle.std.proofs.Common.{◌≡◌, ◌<◌, ◌+◌, ◌-◌, List, ℕ, length, get_or, slice_set, arith, ap, ◌∙◌, length-set}
use Rattle.std.proofs.lemmas.List.{get_or_default}
use Rattle.local_manager.specs.Directories.{home_of}
use Rattle.local_manager.proofs.Keeping.{below_at, below_set, dropped, home_fits, kept_agendas, kept_loads, stands}
use Rattle.local_manager.proofs.directory.Directory.retire.Goals as goal

pub index_mut-requires : goal.index_mut-requires
index_mut-requires g c =
    let fits = home_fits c.self.inside.homes.items c.self.inside.loads.items c.self.inside.domains.items _ c.args.id c.self.invariant in
    rw (c.home-m.ensures, c.deref.ensures.value) (omega (arith, fits, c.self.inside.domains.ok.0))

pub index-requires : goal.index-requires
index-requires g c =
    let fits = home_fits c.self.inside.homes.items c.self.inside.loads.items c.self.inside.domains.items _ c.args.id c.self.invariant in
    rw (c.home-m.ensures, c.deref.ensures.value) (omega (arith, fits, c.self.invariant.loads_each, c.self.inside.loads.ok.0))

pub index_mut-requires-2 : goal.index_mut-requires-2
index_mut-requires-2 g c =
    let fits = home_fits c.self.inside.homes.items c.self.inside.loads.items c.self.inside.domains.items _ c.args.id c.self.invariant in
    rw (c.home-m.ensures, c.deref.ensures.value) (omega (arith, fits, c.self.invariant.loads_each, c.self.inside.loads.ok.0))

pub invariant_of-self : goal.invariant_of-self
invariant_of-self g c =
    let s = c.self.inside in
    let fits = home_fits s.homes.items s.loads.items s.domains.items _ c.args.id c.self.invariant in
    let place : c.home-m.result ≡ home_of s.homes.items c.args.id = c.home-m.ensures ∙ ap (λ (h : List ℕ). home_of h c.args.id) c.deref.ensures.value in
    let is = stands s.domains.items c.home-m.result c.index_mut.result.now c.index_mut.result.now (rw place fits) c.index_mut.ensures.value in
    let all = dropped s.homes.items s.loads.items s.domains.items c.retire.new.self _ c.args.id c.index_mut.result.now c.self.invariant
    (rw place at is) c.retire.ensures in
    let kept = kept_agendas s.homes.items s.loads.items s.domains.items
    (slice_set s.domains.items (home_of s.homes.items c.args.id) c.retire.new.self) _ c.self.invariant all.count all.split in
    let within : c.home-m.result < length s.loads.items = rw place (omega (arith, fits, c.self.invariant.loads_each)) in
    let load : get_or s.loads.items c.home-m.result 0 < length s.homes.items + 1 =
    below_at (length s.homes.items + 1) s.loads.items c.home-m.result (omega arith) c.self.invariant.counts in
    let read = c.index.ensures ∙ get_or_default s.loads.items c.home-m.result c.index.result.now 0 within in
    let less : c.saturating_sub.result < length s.homes.items + 1 = omega (arith, load, read, c.saturating_sub.ensures) in
    rw place (kept_loads s.homes.items s.loads.items (slice_set s.loads.items (home_of s.homes.items c.args.id) c.saturating_sub.result)
    (slice_set s.domains.items (home_of s.homes.items c.args.id) c.retire.new.self) _ kept
    (length-set s.loads.items (home_of s.homes.items c.args.id) c.saturating_sub.result)
    (below_set (length s.homes.items + 1) s.loads.items (home_of s.homes.items c.args.id) c.saturating_sub.result less c.self.invariant.counts))

pub returns : goal.returns
returns g c =
    let s = c.self.inside in
    let fits = home_fits s.homes.items s.loads.items s.domains.items _ c.args.id c.self.invariant in
    let place : c.home-m.result ≡ home_of s.homes.items c.args.id = c.home-m.ensures ∙ ap (λ (h : List ℕ). home_of h c.args.id) c.deref.ensures.value in
    let is = stands s.domains.items c.home-m.result c.index_mut.result.now c.index_mut.result.now (rw place fits) c.index_mut.ensures.value in
    let all = dropped s.homes.items s.loads.items s.domains.items c.retire.new.self _ c.args.id c.index_mut.result.now c.self.invariant
    (rw place at is) c.retire.ensures in
    let within : c.home-m.result < length s.loads.items = rw place (omega (arith, fits, c.self.invariant.loads_each)) in
    let read = c.index.ensures ∙ get_or_default s.loads.items c.home-m.result c.index.result.now 0 within in
    let load : c.saturating_sub.result ≡ get_or s.loads.items (home_of s.homes.items c.args.id) 0 - 1 =
    omega (arith, c.saturating_sub.ensures, read, ap (λ k. get_or s.loads.items k 0) place) in
    rw (← c.self.view_is, place) (cc (all.joined, load))
