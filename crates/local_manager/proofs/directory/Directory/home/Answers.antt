use Rattle.std.proofs.Common.{◌≡◌, List, ℕ, arith, ap, ◌∙◌}
use Rattle.local_manager.specs.Directories.{home_of}
use Rattle.local_manager.proofs.Keeping.{home_fits}
use Rattle.local_manager.proofs.directory.Directory.home.Goals as goal

pub returns-clause-within : goal.returns-clause-within
returns-clause-within g c =
    let fits = home_fits c.self.inside.homes.items c.self.inside.loads.items c.self.inside.domains.items _ c.args.id c.self.invariant in
    let place : c.home.result ≡ home_of c.self.inside.homes.items c.args.id = c.home.ensures ∙ ap (λ (h : List ℕ). home_of h c.args.id) c.deref.ensures.value in
    rw (← c.self.view_is) (omega (arith, fits, place, c.self.invariant.loads_each))
