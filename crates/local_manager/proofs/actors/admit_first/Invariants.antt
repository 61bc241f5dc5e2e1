use Rattle.std.proofs.Common.{◌≡◌, ◌+◌, drop, length}
use Rattle.local_manager.specs.Views.{with_starts}
use Rattle.local_manager.proofs.actors.admit_first.Given as goal

abbrev pub invariant-loop-start : goal.invariant-loop-start
invariant-loop-start g l =
    (l.next ≡ l.start-index + 1)
    × (length l.directory.placed.homes ≡ l.start-index)
    × (l.directory ≡ record l.fn.directory { placed = l.directory.placed })
    × (with_starts l.policy l.directory.placed l.next (drop l.start-index l.starts) ≡ with_starts l.policy l.fn.directory.placed 1 l.starts)
