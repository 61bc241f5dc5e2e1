-- The pairs of a vector of nodes, in order.
use Rattle.std.specs.Prelude.{◌≡◌, ℕ, List, [], ◌∷◌, Option, Some, None, slice_index_or}
use Rattle.agenda.specs.Dues.{add_due}
use Rattle.agenda.specs.declared.due.Due.{Due}

abbrev pub sorted : List (Option Due) → List Due
sorted [] = []
sorted (None ∷ s) = sorted s
sorted (Some d ∷ s) = add_due d (sorted s)

-- no pair stands in two places
abbrev pub Distinct : List (Option Due) → Type 0
Distinct s = (x y : ℕ) (d : Due) → slice_index_or s x None ≡ Some d → slice_index_or s y None ≡ Some d → x ≡ y
