use Rattle.std.proofs.Common.{length, arith}
use Rattle.local_manager.specs.Directories.{home_of}
use Rattle.local_manager.proofs.Joining.{joined_parts}
use Rattle.local_manager.proofs.Keeping.{all_home}
use Rattle.local_manager.proofs.directory.Directory.managers.Goals as goal

pub returns-clause-homes : goal.returns-clause-homes
returns-clause-homes g c = rw (← c.self.view_is, c.self.invariant.loads_each) c.self.invariant.places

pub returns-clause-parts : goal.returns-clause-parts
returns-clause-parts g c =
    let k = c.self.invariant in
    let homes = c.self.inside.homes.items in
    rw (← c.self.view_is, k.loads_each)
    (joined_parts (home_of homes) (length c.self.inside.domains.items) _
    (all_home (λ i. i) (length c.self.inside.domains.items) homes _ (omega (arith, k.some)) k.places))
