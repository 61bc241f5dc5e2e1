-- The accounts of hands that have done nothing.
use Rattle.std.proofs.Common.{◌≡◌, ℕ, zero, suc, List, [], ◌∷◌, map, replicate, length, refl, ap, arith}
use Rattle.quiet_core.specs.declared.entry.Entry.TheVariants as entry
use Rattle.quiet_core.specs.Account.{Shape, Mark, free, blank, no_actors}
use Rattle.quiet_core.specs.Entries.{mark_of, marks_of, whole, all_from, free_table}

free_row : (h n : ℕ) → map (mark_of h) (replicate n entry.Free) ≡ replicate n free
free_row h zero = refl
free_row h (suc n) = ap (λ (r : List Mark). free ∷ r) (free_row h n)

free_marks : (h : ℕ) (sched : List ℕ) → marks_of h (free_table sched) ≡ map (λ n. replicate n free) sched
free_marks h [] = refl
free_marks h (n ∷ ns) = let one = free_row h n in let r = free_marks h ns in λ i. one i ∷ r i

length_all : {A : Type 0} (n : ℕ) (a : A) → length (replicate n a) ≡ n
length_all zero a = refl
length_all (suc n) a = let r = length_all n a in omega arith

pub free_lengths : (sched : List ℕ) → map length (free_table sched) ≡ sched
free_lengths [] = refl
free_lengths (n ∷ ns) = let one = length_all n entry.Free in let r = free_lengths ns in λ i. one i ∷ r i

pub all_free : (t : Shape) (k n : ℕ) → all_from k (replicate n (record (blank no_actors) { weight = 1 })) (free_table t.sched) ≡ replicate n (record (blank t) { weight = 1 })
all_free t k zero = refl
all_free t k (suc n) = let one : whole k (record (blank no_actors) { weight = 1 }) (free_table t.sched) ≡ record (blank t) { weight = 1 } = ap (λ (m : List (List Mark)). record (blank t) { weight = 1; marks = m }) (free_marks k t.sched) in
    let r = all_free t (suc k) n in λ i. one i ∷ r i
