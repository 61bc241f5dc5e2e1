-- A tree is built level by level.
use Rattle.std.proofs.Common.{◌≡◌, ℕ, zero, suc, ◌+◌, ◌*◌, ◌-◌, ◌/◌, ◌<◌, ◌≤◌, List, [], ◌∷◌, ◌++◌, map, length, take, replicate, inl, inr, refl, arith, add-one, eqb, ltb, leb, eqb-true, ltb-true, leb-true, length-append}
use Rattle.std.proofs.lemmas.List.{length-replicate, take_all}
use Rattle.std.proofs.lemmas.List.FromFn.{length-map-range_with_len}
use Rattle.std.specs.List.{range_with_len}
use Rattle.std.specs.Int.{div_ceil}
use Rattle.std.proofs.lemmas.Bool.{cases_lt}
use Rattle.manager_tree.specs.Index.{begins_below, begins_over}
use Rattle.manager_tree.specs.Shape.{Shape}
use Rattle.manager_tree.specs.Tree.{first_of, height_of, levels_below, parents_below, tree_over, width_of}
use Rattle.manager_tree.proofs.Limits.{InLimits, at_limits, at_number}

-- all nodes below a level are there, and this is its first node and its width
pub record IsBuilt (leaves fanout level first width : ℕ) (parents levels begins : List ℕ) : Type 0 where
  pub within : level ≤ height_of leaves fanout
  pub first_is : first ≡ first_of leaves fanout level
  pub width_is : width ≡ width_of leaves fanout level
  pub parents_are : parents ≡ parents_below leaves fanout level
  pub levels_are : levels ≡ levels_below leaves fanout level
  pub begins_are : begins ≡ begins_below leaves fanout level

-- what is counted stays small
pub record IsSmall (leaves fanout level first width : ℕ) : Type 0 where
  pub height : height_of leaves fanout ≤ 4
  pub nodes : first + width ≤ 31
  pub above : first + div_ceil width fanout * fanout ≤ 40

abbrev given : ℕ → ℕ → ℕ × ℕ
given leaves fanout = (leaves, fanout)

abbrev levels_in : ℕ × ℕ → ℕ
levels_in t = height_of t.0 t.1 + 1

pub is_small : (leaves fanout level first width : ℕ) (parents levels begins : List ℕ) → InLimits leaves fanout
    → IsBuilt leaves fanout level first width parents levels begins → IsSmall leaves fanout level first width
is_small leaves fanout level first width parents levels begins limits b =
    let below : level < height_of leaves fanout + 1 = omega (arith, b.within) in
    record {
      height = leb-true _ _ (at_limits (λ l f. leb (height_of l f) 4) refl leaves fanout limits);
      nodes = rw (b.first_is, b.width_is)
          (leb-true _ _ (at_number given (λ t k. leb (first_of t.0 t.1 k + width_of t.0 t.1 k) 31) levels_in refl leaves fanout limits level below));
      above = rw (b.first_is, b.width_is)
          (leb-true _ _ (at_number given (λ t k. leb (first_of t.0 t.1 k + width_of t.0 t.1 (suc k) * t.1) 40) levels_in refl leaves fanout limits level below));
    }

root_alone : (leaves fanout : ℕ) → InLimits leaves fanout → width_of leaves fanout (height_of leaves fanout) ≡ 1
root_alone leaves fanout limits = eqb-true _ _ (at_limits (λ l f. eqb (width_of l f (height_of l f)) 1) refl leaves fanout limits)

wide_below : (leaves fanout level : ℕ) → InLimits leaves fanout → level < height_of leaves fanout → 1 < width_of leaves fanout level
wide_below leaves fanout level limits below =
    ltb-true _ _ (at_number given (λ t k. ltb 1 (width_of t.0 t.1 k)) (λ t. height_of t.0 t.1) refl leaves fanout limits level below)

-- where there are two nodes or more, a level stands above
below_root : (leaves fanout level : ℕ) → InLimits leaves fanout → level ≤ height_of leaves fanout → 1 < width_of leaves fanout level
    → level < height_of leaves fanout
below_root leaves fanout level limits within wide = elim (cases_lt level (height_of leaves fanout)) [
  | inl below ↦ below
  | inr above ↦ (
      let same : height_of leaves fanout ≡ level = omega arith in
      let alone : width_of leaves fanout level ≡ 1 = rw same at (root_alone leaves fanout limits) in
      absurd (omega arith))
]

at_root : (leaves fanout level : ℕ) → InLimits leaves fanout → level ≤ height_of leaves fanout → width_of leaves fanout level ≤ 1
    → level ≡ height_of leaves fanout
at_root leaves fanout level limits within narrow = elim (cases_lt level (height_of leaves fanout)) [
  | inl below ↦ (let wide = wide_below leaves fanout level limits below in absurd (omega (arith, wide)))
  | inr above ↦ omega arith
]

length-levels_below : (leaves fanout level : ℕ) → length (levels_below leaves fanout level) ≡ first_of leaves fanout level
length-levels_below leaves fanout zero = refl
length-levels_below leaves fanout (suc level) = simp (length-append, length-replicate, length-levels_below leaves fanout level)

length-parents_below : (leaves fanout level : ℕ) → length (parents_below leaves fanout level) ≡ first_of leaves fanout level
length-parents_below leaves fanout zero = refl
length-parents_below leaves fanout (suc level) = simp (length-append, length-map-range_with_len, length-parents_below leaves fanout level)

filled : (leaves fanout level width : ℕ) → let levels = levels_below leaves fanout level in
    take (first_of leaves fanout level + width) levels ++ replicate (first_of leaves fanout level + width - length levels) level ≡ levels ++ replicate width level
filled leaves fanout level width =
    let full = length-levels_below leaves fanout level in
    let kept : take (first_of leaves fanout level + width) (levels_below leaves fanout level) ≡ levels_below leaves fanout level =
    take_all _ _ (omega (arith, full)) in
    let more : first_of leaves fanout level + width - length (levels_below leaves fanout level) ≡ width = omega (arith, full) in
    rw (kept, more) refl

pub built_rises : (leaves fanout level first width : ℕ) (parents levels begins : List ℕ) → InLimits leaves fanout
    → IsBuilt leaves fanout level first width parents levels begins → 1 < width → level < height_of leaves fanout
built_rises leaves fanout level first width parents levels begins limits b wide =
    let wide_level : 1 < width_of leaves fanout level = rw (← b.width_is) wide in
    below_root leaves fanout level limits b.within wide_level

pub built_more : (leaves fanout level first width above : ℕ) (parents levels begins parents' levels' begins' : List ℕ) → InLimits leaves fanout
    → IsBuilt leaves fanout level first width parents levels begins → 1 < width → above ≡ div_ceil width fanout
    → parents' ≡ parents ++ map (λ place. first + width + place / fanout) (range_with_len 0 width)
    → levels' ≡ take (first + width) levels ++ replicate (first + width - length levels) level
    → begins' ≡ begins ++ map (λ place. first + place * fanout) (range_with_len 0 above)
    → IsBuilt leaves fanout (level + 1) (first + width) above parents' levels' begins'
built_more leaves fanout level first width above parents levels begins parents' levels' begins' limits b wide above_is more_parents more_levels more_begins =
    record {
      within = omega (arith, built_rises leaves fanout level first width parents levels begins limits b wide);
      first_is = rw (b.first_is, b.width_is, add-one) refl;
      width_is = rw (above_is, b.width_is, add-one) refl;
      parents_are = rw (more_parents, b.parents_are, b.first_is, b.width_is, add-one) refl;
      levels_are = rw (more_levels, b.levels_are, b.first_is, b.width_is, add-one) (filled leaves fanout level (width_of leaves fanout level));
      begins_are = rw (more_begins, above_is, b.begins_are, b.first_is, b.width_is, add-one) refl;
    }

pub record IsDone (leaves fanout first : ℕ) (parents levels begins : List ℕ) : Type 0 where
  pub root : first ≡ length parents
  pub shape : ◌≡◌ {A = Shape} (record { leaves = leaves; parents = parents; levels = levels }) (tree_over leaves fanout)
  pub begins_are : begins ≡ begins_over leaves fanout

pub built_all : (leaves fanout level first width : ℕ) (parents levels begins levels' begins' : List ℕ) → InLimits leaves fanout
    → IsBuilt leaves fanout level first width parents levels begins → width ≤ 1
    → levels' ≡ levels ++ level ∷ [] → begins' ≡ begins ++ first ∷ []
    → IsDone leaves fanout first parents levels' begins'
built_all leaves fanout level first width parents levels begins levels' begins' limits b narrow last_level last_begin =
    let narrow_level : width_of leaves fanout level ≤ 1 = rw (← b.width_is) narrow in
    let same : level ≡ height_of leaves fanout = at_root leaves fanout level limits b.within narrow_level in
    let all_parents : parents ≡ parents_below leaves fanout (height_of leaves fanout) = rw (b.parents_are, same) refl in
    let all_levels : levels' ≡ levels_below leaves fanout (suc (height_of leaves fanout)) =
    rw (last_level, b.levels_are, same, root_alone leaves fanout limits) refl in
    record {
      root = rw (b.first_is, b.parents_are, length-parents_below leaves fanout level) refl;
      shape = rw (all_parents, all_levels) refl;
      begins_are = rw (last_begin, b.begins_are, b.first_is, same) refl;
    }
