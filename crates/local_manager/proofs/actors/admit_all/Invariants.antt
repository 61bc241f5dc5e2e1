use Rattle.std.proofs.Common.{◌≡◌, ◌+◌, length, take}
use Rattle.local_manager.specs.Views.{with_newborn}
use Rattle.local_manager.proofs.actors.admit_all.Given as goal

abbrev pub invariant-loop-newborn : goal.invariant-loop-newborn
invariant-loop-newborn g l =
    (l.directory ≡ record l.fn.directory { placed = with_newborn l.policy l.fn.directory.placed (take l.newborn-index l.born) })
    × (length l.directory.placed.homes ≡ length l.fn.directory.placed.homes + l.newborn-index)
