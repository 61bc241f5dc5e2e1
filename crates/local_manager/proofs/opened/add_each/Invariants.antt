use Rattle.std.proofs.Common.{◌≡◌, ◌≤◌, ◌+◌, ◌++◌, length, take}
use Rattle.local_manager.proofs.opened.add_each.Given as goal

abbrev pub invariant-loop-letter : goal.invariant-loop-letter
invariant-loop-letter l =
    (l.into.list ≡ l.fn.into.list ++ take l.letter-index l.letters) × (length l.letters ≤ l.into.spare + l.letter-index)
