-- An account in which nothing was done.
use Rattle.std.proofs.Common.{◌≡◌, ℕ, zero, suc, false, ◌||◌, List, [], ◌∷◌, map, replicate, get_or, refl, ap, ◌∙◌, arith}
use Rattle.quiet_core.specs.Rows.{below, at_pair}
use Rattle.quiet_core.specs.Account.{Shape, managers, most_managers, most_nodes, Mark, free, blank, mark, has_met, posts, knows, acks, collects, has_duty}
use Rattle.quiet_core.specs.Balance.{past, acked_at}
use Rattle.quiet_core.proofs.Sums.{below_same, below_zero}
use Rattle.quiet_core.proofs.Untouched.{cond_le}

same_all : {A : Type 0} (n i : ℕ) (a : A) → get_or (replicate n a) i a ≡ a
same_all zero i a = refl
same_all (suc n) zero a = refl
same_all (suc n) (suc i) a = same_all n i a

free_all : (l : List ℕ) (m i : ℕ) → get_or (get_or (map (λ n. replicate n free) l) m []) i free ≡ free
free_all [] m i = refl
free_all (x ∷ xs) zero i = same_all x i free
free_all (x ∷ xs) (suc m) i = free_all xs m i

pairs_none : (n k i j : ℕ) → at_pair (replicate n (replicate k 0)) i j ≡ 0
pairs_none zero k i j = refl
pairs_none (suc n) k zero j = same_all k j 0
pairs_none (suc n) k (suc i) j = pairs_none n k i j

module _ (t : Shape) where
  pub mark_none : (m i : ℕ) → mark (blank t) m i ≡ free
  mark_none m i = free_all t.sched m i

  pub met_none : (m : ℕ) → has_met (blank t) m ≡ false
  met_none m = same_all most_managers m false

  pub posts_none : (m n : ℕ) → posts (blank t) m n ≡ 0
  posts_none m n = pairs_none most_managers most_managers m n

  pub knows_none : (m n : ℕ) → knows (blank t) m n ≡ 0
  knows_none m n = pairs_none most_managers most_managers m n

  pub acks_none : (m n : ℕ) → acks (blank t) m n ≡ 0
  acks_none m n = pairs_none most_managers most_managers m n

  pub collects_none : (n : ℕ) → collects (blank t) n ≡ 0
  collects_none n = same_all most_managers n 0

  pub duty_none : (c : ℕ) → has_duty (blank t) c ≡ false
  duty_none c = same_all most_nodes c false

  pub count_none : (f : Mark → ℕ) → f free ≡ 0 → (m n : ℕ) → below (λ i. f (mark (blank t) m i)) n ≡ 0
  count_none f e m n = below_same (λ i. f (mark (blank t) m i)) (λ _. 0) n (λ i l. ap f (mark_none m i) ∙ e) ∙ below_zero n

  pub acked_none : (m : ℕ) → acked_at t m (blank t) ≡ 0
  acked_none m = below_same (λ n. acks (blank t) m n) (λ _. 0) (managers t) (λ n l. acks_none m n) ∙ below_zero (managers t)

  pub past_blank : (m : ℕ) → past m (blank t) ≡ 0
  past_blank m = let l = cond_le (has_met (blank t) m || false) 0 in omega arith
