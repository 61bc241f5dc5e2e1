use Rattle.std.proofs.Common.{◌≡◌, List, ℕ, arith, ap, ◌∙◌}
use Rattle.local_manager.specs.Directories.{home_of}
use Rattle.local_manager.proofs.Keeping.{asked, asked_either, home_fits, on_ok, stands}
use Rattle.local_manager.proofs.directory.Directory.ask.Goals as goal

pub index_mut-requires : goal.index_mut-requires
index_mut-requires g c =
    let fits = home_fits c.self.inside.homes.items c.self.inside.loads.items c.self.inside.domains.items _ c.args.id c.self.invariant in
    rw (c.home-m.ensures, c.deref.ensures.value) (omega (arith, fits, c.self.inside.domains.ok.0))

pub invariant_of-self : goal.invariant_of-self
invariant_of-self g c =
    let fits = home_fits c.self.inside.homes.items c.self.inside.loads.items c.self.inside.domains.items _ c.args.id c.self.invariant in
    let place : c.home-m.result ≡ home_of c.self.inside.homes.items c.args.id =
    c.home-m.ensures ∙ ap (λ (h : List ℕ). home_of h c.args.id) c.deref.ensures.value in
    let is = stands c.self.inside.domains.items c.home-m.result c.index_mut.result.now c.index_mut.result.now (rw place fits) c.index_mut.ensures.value in
    rw place (asked_either c.self.inside.homes.items c.self.inside.loads.items c.self.inside.domains.items c.ask.new.self _ c.args.id c.args.ticks.now
    c.index_mut.result.now
    c.self.invariant (rw place at is) c.ask.result c.ask.ensures.ok c.ask.ensures.err)

pub returns-clause-ok : goal.returns-clause-ok
returns-clause-ok g c =
    let fits = home_fits c.self.inside.homes.items c.self.inside.loads.items c.self.inside.domains.items _ c.args.id c.self.invariant in
    let place : c.home-m.result ≡ home_of c.self.inside.homes.items c.args.id =
    c.home-m.ensures ∙ ap (λ (h : List ℕ). home_of h c.args.id) c.deref.ensures.value in
    let is = stands c.self.inside.domains.items c.home-m.result c.index_mut.result.now c.index_mut.result.now (rw place fits) c.index_mut.ensures.value in
    rw (← c.self.view_is, place) (on_ok c.ask.result (λ e.
    let all = asked c.self.inside.homes.items c.self.inside.loads.items c.self.inside.domains.items c.ask.new.self _ c.args.id c.args.ticks.now
    c.index_mut.result.now
    c.self.invariant (rw place at is) e in cc (all.joined)) c.ask.ensures.ok)
