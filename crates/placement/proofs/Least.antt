-- The first place of the least load.
use Rattle.std.proofs.Common.{◌≡◌, ℕ, ◌<◌, ◌≤◌, Bool, true, false, List, length, get_or, leb, arith, le-leb, sym}
use Rattle.std.proofs.lemmas.Bool.{lt-leb}
use Rattle.std.proofs.lemmas.List.{get_or_default}
use Rattle.std.specs.List.{list_all}
use Rattle.std.proofs.lemmas.List.Folds.{list_all_at}
use Rattle.std.proofs.lemmas.List.Sums.{list_all-from_AllPass, position_or_len_is}
use Rattle.placement.specs.Placing.{least_loaded}

-- among the first so many loads this is the least, and the first such
pub record IsLeast (loads : List ℕ) (count best : ℕ) : Type 0 where
  pub within : best < length loads
  pub least : (k : ℕ) → k < count → get_or loads best 0 ≤ get_or loads k 0
  pub first : (k : ℕ) → k < best → get_or loads best 0 < get_or loads k 0

pub least_loaded-is : (loads : List ℕ) (count best : ℕ) → IsLeast loads count best → length loads ≤ count → best ≡ least_loaded loads
least_loaded-is loads count best h all =
    let passes : ℕ → Bool = λ load. list_all (leb load) loads in
    let earlier : (k : ℕ) → k < best → passes (get_or loads k 0) ≡ false =
    λ k below. list_all_at (leb (get_or loads k 0)) loads best 0 h.within (lt-leb _ _ (h.first k below)) in
    let here : passes (get_or loads best 0) ≡ true =
    list_all-from_AllPass (leb (get_or loads best 0)) loads
    (λ k d within. rw (get_or_default loads k d 0 within) (le-leb _ _ (h.least k (omega arith)))) in
    sym (position_or_len_is passes loads best 0 (omega (arith, h.within)) earlier (λ _. here))
