-- The parts of a list by manager, one after the other.
use Rattle.std.specs.Prelude.{ℕ, zero, suc, List, [], ◌++◌}
use Rattle.local_manager.specs.Merged.{at_home}

-- those of so many managers, from this one on
abbrev pub joined_from : {X : Type 0} → (X → ℕ) → ℕ → ℕ → List X → List X
joined_from home m zero xs = []
joined_from home m (suc n) xs = at_home home m xs ++ joined_from home (suc m) n xs

abbrev pub joined : {X : Type 0} → (X → ℕ) → ℕ → List X → List X
joined home managers xs = joined_from home 0 managers xs
