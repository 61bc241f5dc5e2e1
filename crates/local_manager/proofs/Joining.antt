-- The parts by manager, one after the other, have the elements of the one list.
use Rattle.std.proofs.Common.{◌≡◌, ℕ, suc, zero, ◌+◌, ◌<◌, ◌≤◌, Bool, true, false, not, cond, nat_eq, List, [], ◌∷◌, ◌++◌, length, map, refl, sym, ap}
use Rattle.std.proofs.Common.{arith, ◌∙◌, subst, length-append}
use Rattle.std.proofs.lemmas.Bool.Decides.{nat_tests}
use Rattle.std.proofs.lemmas.List.Sorted.{IsPermutation-filter_both, IsPermutation-append_right, IsPermutation-trans, IsPermutation-refl, length_permutation}
use Rattle.std.proofs.lemmas.List.Sums.{sum_by-cons}
use Rattle.std.specs.List.{filter, sum_by}
use Rattle.std.specs.List.Sorted.{IsPermutation}
use Rattle.local_manager.specs.Joined.{joined, joined_from}
use Rattle.sim_base.specs.Room.{Room}
use Rattle.sim_base.specs.declared.ids.ActorId.{ActorId}
use Rattle.agenda.specs.declared.due.Due.{Due}
use Rattle.local_manager.specs.Directories.{AllBelow, Kept, home_of, id_before}
use Rattle.local_manager.specs.Merged.{at_home, union, IsSplit}
use Rattle.local_manager.proofs.Keeping.{all_home}
use Rattle.local_manager.proofs.Merging.{AllHome, SplitFrom, split_from}

abbrev AllFrom : {X : Type 0} → (X → ℕ) → ℕ → ℕ → List X → Type 0
AllFrom home k n [] = Unit {0}
AllFrom home k n (x ∷ xs) = ((k ≤ home x) × (home x < k + n)) × AllFrom home k n xs

abbrev others : {X : Type 0} → (X → ℕ) → ℕ → List X → List X
others home k xs = filter (λ x. not (nat_eq (home x) k)) xs

later_same : {X : Type 0} (home : X → ℕ) (k m : ℕ) (xs : List X) → k < m → at_home home m (others home k xs) ≡ at_home home m xs
later_same home k m [] lt = refl
later_same {X} home k m (x ∷ xs) lt = deeper (later_same home k m xs lt) (nat_eq (home x) k) (nat_eq (home x) m) refl refl
  where
    deeper : at_home home m (others home k xs) ≡ at_home home m xs → (b c : Bool) → nat_eq (home x) k ≡ b → nat_eq (home x) m ≡ c
        → at_home home m (cond (not b) (x ∷ others home k xs) (others home k xs)) ≡ cond c (x ∷ at_home home m xs) (at_home home m xs)
    deeper g true true hb hc = absurd (grind (arith, nat_tests, hb, hc, lt))
    deeper g true false hb hc = g
    deeper g false true hb hc = rw (hc, g)
    deeper g false false hb hc = rw (hc, g)

joined_others : {X : Type 0} (home : X → ℕ) (k j n : ℕ) (all : List X) → k < j → joined_from home j n (others home k all) ≡ joined_from home j n all
joined_others home k j zero all lt = refl
joined_others home k j (suc n) all lt =
    ap (λ l. l ++ joined_from home (suc j) n (others home k all)) (later_same home k j all lt)
    ∙ ap (λ l. at_home home j all ++ l) (joined_others home k (suc j) n all (omega arith))

from_others : {X : Type 0} (home : X → ℕ) (k n : ℕ) (xs : List X) → AllFrom home k (suc n) xs → AllFrom home (suc k) n (others home k xs)
from_others home k n [] h = tt
from_others {X} home k n (x ∷ xs) h = deeper (from_others home k n xs h.1) (nat_eq (home x) k) refl
  where
    deeper : AllFrom home (suc k) n (others home k xs) → (b : Bool) → nat_eq (home x) k ≡ b
        → AllFrom home (suc k) n (cond (not b) (x ∷ others home k xs) (others home k xs))
    deeper g true e = g
    deeper g false e = ((grind (arith, nat_tests, e, h.0.0), omega (arith, h.0.1)), g)

joined_all : {X : Type 0} (home : X → ℕ) (k n : ℕ) (all : List X) → AllFrom home k n all → IsPermutation all (joined_from home k n all)
joined_all home k zero [] h = IsPermutation-refl []
joined_all home k zero (x ∷ all) h = absurd (omega (arith, h.0.0, h.0.1))
joined_all {X} home k (suc n) all h =
    let deeper : IsPermutation (others home k all) (joined_from home (suc k) n (others home k all)) =
    joined_all home (suc k) n (others home k all) (from_others home k n all h) in
    let rest : IsPermutation (others home k all) (joined_from home (suc k) n all) =
    subst (λ (l : List X). IsPermutation (others home k all) l) (joined_others home k (suc k) n all (omega arith)) deeper in
    let both : IsPermutation all (at_home home k all ++ others home k all) =
    IsPermutation-filter_both (λ x. nat_eq (home x) k) (λ x. not (nat_eq (home x) k)) (λ x. refl) all in
    IsPermutation-trans all (at_home home k all ++ others home k all) (at_home home k all ++ joined_from home (suc k) n all) both
    (IsPermutation-append_right (at_home home k all) (others home k all) (joined_from home (suc k) n all) rest)

all_from : {X : Type 0} (home : X → ℕ) (n : ℕ) (xs : List X) → AllHome home n xs → AllFrom home 0 n xs
all_from home n [] h = tt
all_from home n (x ∷ xs) h = ((omega arith, omega (arith, h.0)), all_from home n xs h.1)

pub joined_parts : {X : Type 0} (home : X → ℕ) (n : ℕ) (all : List X) → AllHome home n all → IsPermutation all (joined home n all)
joined_parts home n all h = joined_all home 0 n all (all_from home n all h)

-- ---- how many stand in all parts

counts_from : {X : Type 0} (home : X → ℕ) (k : ℕ) (all : List X) (ps : List (List X)) → SplitFrom home k all ps
    → sum_by (λ p. length p) ps ≡ length (joined_from home k (length ps) all)
counts_from home k all [] s = refl
counts_from {X} home k all (p ∷ ps) s =
    sum_by-cons (λ (p : List X). length p) p ps
    ∙ ap (λ n. length p + n) (counts_from home (suc k) all ps s.1)
    ∙ ap (λ (l : List X). length l + length (joined_from home (suc k) (length ps) all)) s.0
    ∙ sym (length-append (at_home home k all) (joined_from home (suc k) (length ps) all))

pub joined_count : {X : Type 0} (home : X → ℕ) (all : List X) (ps : List (List X)) → AllHome home (length ps) all → IsSplit home all ps
    → sum_by (λ p. length p) ps ≡ length all
joined_count {X} home all ps h s =
    counts_from home 0 all ps (split_from home 0 all ps (λ m p e. subst (λ (k : ℕ). p ≡ at_home home k all) (omega arith) (s m p e)))
    ∙ length_permutation all (joined home (length ps) all) (joined_parts home (length ps) all h)

-- ... of the scheduled
pub scheduled_count : (homes loads : List ℕ) (agendas : List (List Due)) (lists : List (Room ActorId)) → Kept homes loads agendas (map (λ r. r.list) lists)
    → sum_by (λ r. length r.list) lists ≡ length (union id_before (map (λ r. r.list) lists))
scheduled_count homes loads agendas lists k =
    let parts : List (List ActorId) = map (λ (r : Room ActorId). r.list) lists in
    mapped lists
    ∙ joined_count (home_of homes) (union id_before parts) parts
    (all_home (λ i. i) (length parts) homes (union id_before parts) (omega (arith, k.some, k.lists_each))
    (subst (λ (n : ℕ). AllBelow n homes) (sym k.lists_each) k.places)) k.ids
  where
    mapped : (lists : List (Room ActorId)) → sum_by (λ r. length r.list) lists ≡ sum_by (λ p. length p) (map (λ r. r.list) lists)
    mapped [] = refl
    mapped (r ∷ rs) =
        sum_by-cons (λ (r : Room ActorId). length r.list) r rs
        ∙ ap (λ n. length r.list + n) (mapped rs)
        ∙ sym (sum_by-cons (λ (p : List ActorId). length p) r.list (map (λ (r : Room ActorId). r.list) rs))
