use Rattle.std.proofs.Common.{◌≡◌, length, List, ℕ, [], map}
use Rattle.local_manager.specs.Directories.{home_of}
use Rattle.local_manager.specs.Merged.{IsSplit}
use Rattle.local_manager.proofs.lists.empty_lists.Given as goal

abbrev pub invariant-loop-m : goal.invariant-loop-m
invariant-loop-m l = record { long : length l.lists.items ≡ l._m; empty : (homes : List ℕ) → IsSplit (home_of homes) [] (map (λ r. r.list) l.lists.items) }
