-- The leasts of the buckets, and above them those of groups of neighbouring buckets.
use Rattle.std.specs.Prelude.{◌≡◌, ℕ, ◌+◌, ◌*◌, ◌<◌, List, length, slice_index_or, Option, None}
use Rattle.agenda_wheel.specs.Seen.{LeastOf}

-- the number of a place in a group
abbrev pub in_group : List (Option ℕ) → ℕ → ℕ → Option ℕ
in_group bs g i = slice_index_or bs (32 * g + i) None

-- of each group of 32 buckets the least
pub record KeepsGroups (bs gs : List (Option ℕ)) : Type 0 where
  pub buckets : length bs ≡ 1024
  pub groups : length gs ≡ 32
  pub right : (g : ℕ) → g < 32 → LeastOf (in_group bs g) 32 (slice_index_or gs g None)
