-- Letters that are counted by manager.
use Rattle.std.proofs.Common.{◌≡◌, ℕ, zero, suc, ◌+◌, ◌<◌, ◌≤◌, nat_eq, List, length, get_or, set, take, replicate}
use Rattle.std.proofs.Common.{eq-eqb, ne_eqb, get_or-set_same, get_or-set_other, refl, sym, ap, ◌∙◌, arith}
use mathlib.Core.Logic.{dite}
use native.Mathlib.Decide.{ℕ_discrete}
use Rattle.std.proofs.lemmas.List.Sums.{sum_by_more}
use Rattle.actor_trait.specs.declared.letter.Parcel.{Parcel}
use Rattle.quiet_core.specs.Rows.{below, bit}
use Rattle.quiet_core.proofs.Sums.{below_same, below_turn, below_zero, le_below}
use Rattle.work_claims.specs.Letters.{parcels_to}
use Rattle.work_claims.specs.Placed.{Placed}

same_all : (n i x : ℕ) → get_or (replicate n x) i x ≡ x
same_all zero i x = refl
same_all (suc n) zero x = refl
same_all (suc n) (suc i) x = same_all n i x

-- no letter
pub none_to : (n : ℕ) → get_or (replicate 16 zero) n zero ≡ 0
none_to n = same_all 16 n zero

pub none_in_all : (managers : ℕ) → below (λ n. get_or (replicate 16 zero) n zero) managers ≡ 0
none_in_all managers = below_same (λ n. get_or (replicate 16 zero) n zero) (λ _. 0) managers (λ n lt. none_to n) ∙ below_zero managers

-- a letter more
module _ {A : Type 0} (p : Placed A) (to : List ℕ) (parcels : List Parcel) (i h : ℕ) (d : Parcel) (lt : i < length parcels)
    (home : h ≡ p.route (get_or parcels i d).to) (wide : h < length to) where
  after : List ℕ
  after = set to h (get_or to h 0 + 1)

  pub more_to : ((n : ℕ) → get_or to n 0 ≡ parcels_to p n (take i parcels)) → (n : ℕ)
      → get_or (set to h (get_or to h 0 + 1)) n 0 ≡ parcels_to p n (take (i + 1) parcels)
  more_to each n =
      let all = sum_by_more (λ (l : Parcel). bit (nat_eq (p.route l.to) n)) parcels i d lt in
      let before = each n in
      dite (ℕ_discrete n h)
      (λ e. let one = ap bit (eq-eqb (p.route (get_or parcels i d).to) n (sym home ∙ sym e)) in
      let same = get_or-set_same to h (get_or to h 0 + 1) 0 wide in
      let here : get_or (set to h (get_or to h 0 + 1)) n 0 ≡ get_or to n 0 + 1 =
      ap (λ k. get_or (set to h (get_or to h 0 + 1)) k 0) e ∙ same ∙ ap (λ k. get_or to k 0 + 1) (sym e) in omega arith)
      (λ ne. let none = ap bit (ne_eqb (p.route (get_or parcels i d).to) n (λ e. ne (sym e ∙ sym home))) in
      let same = get_or-set_other to h n (get_or to h 0 + 1) 0 ne in omega arith)

  pub more_in_all : (managers : ℕ) → h < managers → below (λ n. get_or to n 0) managers ≡ i
      → below (λ n. get_or (set to h (get_or to h 0 + 1)) n 0) managers ≡ i + 1
  more_in_all managers lh so_far =
      let turn = below_turn (λ n. get_or to n 0) (λ n. get_or (set to h (get_or to h 0 + 1)) n 0) managers h lh
      (λ k lk ne. sym (get_or-set_other to h k (get_or to h 0 + 1) 0 ne)) in
      let same = get_or-set_same to h (get_or to h 0 + 1) 0 wide in omega arith

-- no count is more than all
pub count_few : (to : List ℕ) (h managers n : ℕ) → h < managers → below (λ n. get_or to n 0) managers ≡ n → get_or to h 0 ≤ n
count_few to h managers n lh all = let l = le_below (λ n. get_or to n 0) managers h lh in omega arith
