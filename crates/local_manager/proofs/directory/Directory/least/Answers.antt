use Rattle.local_manager.proofs.Earliest.{least_kept}
use Rattle.local_manager.proofs.directory.Directory.least.Goals as goal

pub returns : goal.returns
returns g c =
    let all = least_kept c.self.inside.homes.items c.self.inside.loads.items c.self.inside.domains.items _ c.self.invariant in
    rw (← c.self.view_is) (cc (all, c.earliest_of.ensures, c.deref.ensures.value))
