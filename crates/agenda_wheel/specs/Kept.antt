-- What a contract sees of a wheel, and what makes its parts one agenda.
use Rattle.std.specs.Prelude.{◌≡◌, ℕ, ◌-◌, ◌<◌, ◌≤◌, Bool, true, false, nat_eq, List, length, slice_index_or, Option, Some, None, count_by}
use Rattle.std.specs.List.{filter}
use Rattle.agenda.specs.Dues.{least}
use Rattle.agenda.specs.Kept.{Kept}
use Rattle.agenda.specs.declared.due.Due.{Due}
use Rattle.agenda_wheel.specs.Slots.{sorted, Distinct}
use Rattle.agenda_wheel.specs.Wheel.{bucket, pair_at, pairs_of, Sound}
use Rattle.agenda_wheel.specs.declared.links.Node.{Node}

abbrev pub is_free : Option Due → Bool
is_free None = true
is_free (Some d) = false

-- the pairs, how many nodes are free, and the greatest id that has a list
abbrev pub kept_by : List Node → List ℕ → ℕ → Kept
kept_by ns hs spare = record { pairs = sorted (pairs_of ns); spare = spare; top = length hs - 2 }

-- the pairs of a bucket
abbrev pub in_bucket : ℕ → List Due → List Due
in_bucket b dues = filter (λ d. nat_eq (bucket d) b) dues

-- of each bucket its least tick
pub record KeepsLeasts (dues : List Due) (ls : List (Option ℕ)) : Type 0 where
  pub size : length ls ≡ 1024
  pub right : (b : ℕ) → b < 1024 → slice_index_or ls b None ≡ least (in_bucket b dues)

pub record IsWhole (ns : List Node) (ts hs : List ℕ) (ls : List (Option ℕ)) (low free : ℕ) : Type 0 where
  pub sound : Sound ns ts hs
  pub apart : Distinct (pairs_of ns)
  pub lists : 2 ≤ length hs
  pub leasts : KeepsLeasts (sorted (pairs_of ns)) ls
  -- no pair is below it
  pub floor : (x : ℕ) (d : Due) → pair_at ns x ≡ Some d → low ≤ d.tick
  pub spare : free ≡ count_by is_free (pairs_of ns)
