-- Places of names.
use Rattle.std.specs.Prelude.{ℕ, ◌+◌, List, [], ◌∷◌, Option, Some, None, if◌then◌else◌, bytes_eq}

abbrev pub place_from : ℕ → List (List ℕ) → List ℕ → Option ℕ
place_from i [] q = None
place_from i (n ∷ ns) q = if bytes_eq n q then Some i else place_from (i + 1) ns q

-- the place of the first name that is q, counted from 1
abbrev pub place_in : List (List ℕ) → List ℕ → Option ℕ
place_in ns q = place_from 1 ns q
