-- What a deed, a join and a split make of the two counts of a hand.
use Rattle.std.proofs.Common.{◌≡◌, ℕ, ◌+◌, ◌-◌, ◌<◌, ◌⊎◌, ⊎_elim, eqb, ltb, true, false, refl, sym, ap, ◌∙◌, arith, subst, zero-add, add-zero, ltb-true}
use Rattle.quiet_core.specs.Rows.{put, put_pair}
use Rattle.quiet_core.specs.Account.{Shape, managers, scheduled, parent, Mark, free, fresh, told, reported, twice, Account, blank, mark, acks, owing, opened, done}
use Rattle.quiet_core.specs.declared.deed.Deed.{Deed}
use Rattle.quiet_core.specs.declared.deed.Deed.TheVariants as deed
use Rattle.quiet_core.specs.Step.{after, May, put_mark, meet, united}
use Rattle.quiet_core.specs.Balance.{acked_at}
use Rattle.quiet_core.proofs.Sums.{below_turn, below_sum, below_same, below_zero, pair_here, pair_beside, pair_apart, pairs_blend}
use Rattle.quiet_core.proofs.Acks.{open_in}
use Rattle.quiet_core.proofs.ClaimKeeps.{claim_new}
use Rattle.quiet_core.proofs.Clearing.{meet_free}
use Rattle.quiet_core.proofs.Meeting.{mark_united}
use Rattle.quiet_core.proofs.Untouched.{count_put, count_apart, by_test}
use Rattle.quiet_core.proofs.Reached.{reached_field}
use Rattle.quiet_core.proofs.Blank.{count_none, acked_none}
use Rattle.quiescence.specs.Rule.{Stands, Did}
use Rattle.quiescence.specs.Counts.{done_at, reported_in, acked_in}
use Rattle.quiescence.specs.Learnt.{Disjoint}

-- how many actors a deed reports, and how many letters it acknowledges
abbrev pub reports : Deed → ℕ
reports (deed.Claim m) = 0
reports (deed.Raise m i n) = 0
reports (deed.Post m i to n) = 0
reports (deed.Done m i) = 1
reports (deed.Collect n) = 0
reports (deed.Look m n) = 0
reports (deed.Ack m n k) = 0
reports (deed.Climb c) = 0

abbrev pub acknowledges : Deed → ℕ
acknowledges (deed.Claim m) = 0
acknowledges (deed.Raise m i n) = 0
acknowledges (deed.Post m i to n) = 0
acknowledges (deed.Done m i) = 0
acknowledges (deed.Collect n) = 0
acknowledges (deed.Look m n) = 0
acknowledges (deed.Ack m n k) = k
acknowledges (deed.Climb c) = 0

not_done : (k : Mark) → opened k ≡ 1 → done k ≡ 0
not_done free e = refl
not_done fresh e = refl
not_done (told k) e = refl
not_done reported e = absurd (omega arith)
not_done twice e = absurd (omega arith)

-- where one mark changes
marked : (t : Shape) (a : Account) (m i : ℕ) (k : Mark) → m < managers t → i < scheduled t m → reported_in t (put_mark a m i k) + done (mark a m i) ≡ reported_in t a + done k
marked t a m i k lm li =
    let here = count_put done a m i (scheduled t m) k li in
    let b = below_turn (done_at t a) (done_at t (put_mark a m i k)) (managers t) m lm (λ n l ne. sym (count_apart done a m n i (scheduled t n) k ne)) in omega arith

-- where a mark changes that isn't done, to one that isn't
same_mark : (t : Shape) (a : Account) (m i : ℕ) (k : Mark) → m < managers t → i < scheduled t m → done (mark a m i) ≡ 0 → done k ≡ 0 → reported_in t (put_mark a m i k) ≡ reported_in t a
same_mark t a m i k lm li e f = let r = marked t a m i k lm li in omega arith

-- where a hand acknowledges k letters more
acks_more : (t : Shape) (a : Account) (m n k : ℕ) → m < managers t → n < managers t → acked_in t (record a { acked = put_pair a.acked m n (acks a m n + k) }) ≡ acked_in t a + k
acks_more t a m n k lm ln =
    let c : Account = record a { acked = put_pair a.acked m n (acks a m n + k) } in
    let v : ℕ = acks a m n + k in
    let here = pair_here a.acked m n v in
    let row = below_turn (λ j. acks a m j) (λ j. acks c m j) (managers t) n ln (λ j l ne. sym (pair_beside a.acked m n j v ne)) in
    let all = below_turn (λ j. acked_at t j a) (λ j. acked_at t j c) (managers t) m lm (λ j l ne. below_same (λ i. acks a j i) (λ i. acks c j i) (managers t) (λ i li. sym (pair_apart a.acked m n j i v ne))) in
    omega arith

module _ (t : Shape) (a : Account) (s : Stands t a) where
  within : (m i : ℕ) → m < managers t → opened (mark a m i) ≡ 1 → i < scheduled t m
  within m i lm o = open_in t s.state s.kept s.hand a s.sits m i lm o

  reported_by : (d : Deed) (x : ℕ) → May t d a → ((m : ℕ) → d ≡ deed.Claim m → x < scheduled t m → mark a m x ≡ free) → reported_in t (after t d x a) ≡ reported_in t a + reports d
  reported_by (deed.Claim m) x may new = by_test (λ b. reported_in t b ≡ reported_in t a + 0) (ltb x (scheduled t m)) (put_mark a m x fresh) (record a { exhausted = put false a.exhausted m true })
      (λ l. let lt = ltb-true x (scheduled t m) l in let e = same_mark t a m x fresh may.0 lt (ap done (new m refl lt)) refl in omega arith) (λ _. omega arith)
  reported_by (deed.Raise m i n) x may new = let o : opened (mark a m i) ≡ 1 = ap opened may.2 in let e = same_mark t a m i (told n) may.0 (within m i may.0 o) (not_done (mark a m i) o) refl in omega arith
  reported_by (deed.Post m i to n) x may new = let o : opened (mark a m i) ≡ 1 = may.3 in let e = same_mark t a m i (told (owing (mark a m i) - n)) may.0 (within m i may.0 o) (not_done (mark a m i) o) refl in omega arith
  reported_by (deed.Done m i) x may new = let o : opened (mark a m i) ≡ 1 = may.2 in let z = not_done (mark a m i) o in let e = marked t a m i reported may.0 (within m i may.0 o) in
      let f = reached_field (λ (b : Account). reported_in t b) t m (x - 1) (put_mark a m i reported) refl refl in omega arith
  reported_by (deed.Collect n) x may new = by_test (λ b. reported_in t b ≡ reported_in t a + 0) (eqb x 0) (record a { collected = put 0 a.collected n 1 }) a (λ _. omega arith) (λ _. omega arith)
  reported_by (deed.Look m n) x may new = omega arith
  reported_by (deed.Ack m n k) x may new = let f = reached_field (λ (b : Account). reported_in t b) t m (x - k) (record a { acked = put_pair a.acked m n (acks a m n + k) }) refl refl in omega arith
  reported_by (deed.Climb c) x may new = let f = reached_field (λ (b : Account). reported_in t b) t (parent t c) (x - 1) (record a { duties = put false a.duties c false }) refl refl in omega arith

  acked_by : (d : Deed) (x : ℕ) → May t d a → acked_in t (after t d x a) ≡ acked_in t a + acknowledges d
  acked_by (deed.Claim m) x may = by_test (λ b. acked_in t b ≡ acked_in t a + 0) (ltb x (scheduled t m)) (put_mark a m x fresh) (record a { exhausted = put false a.exhausted m true }) (λ _. omega arith) (λ _. omega arith)
  acked_by (deed.Raise m i n) x may = omega arith
  acked_by (deed.Post m i to n) x may = omega arith
  acked_by (deed.Done m i) x may = let f = reached_field (λ (b : Account). acked_in t b) t m (x - 1) (put_mark a m i reported) refl refl in omega arith
  acked_by (deed.Collect n) x may = by_test (λ b. acked_in t b ≡ acked_in t a + 0) (eqb x 0) (record a { collected = put 0 a.collected n 1 }) a (λ _. omega arith) (λ _. omega arith)
  acked_by (deed.Look m n) x may = omega arith
  acked_by (deed.Ack m n k) x may = let e = acks_more t a m n k may.0 may.1 in let f = reached_field (λ (b : Account). acked_in t b) t m (x - k) (record a { acked = put_pair a.acked m n (acks a m n + k) }) refl refl in omega arith
  acked_by (deed.Climb c) x may = let f = reached_field (λ (b : Account). acked_in t b) t (parent t c) (x - 1) (record a { duties = put false a.duties c false }) refl refl in omega arith

-- a claimed number is new to the hand
pub was_free : (t : Shape) (a : Account) (x : ℕ) (a' : Account) (m : ℕ) → May t (deed.Claim m) a → Did t (deed.Claim m) a x a' → x < scheduled t m → mark a m x ≡ free
was_free t a x a' m may did lt = let s = did.before in let f = did.found in subst (λ (n : ℕ). mark a m n ≡ free) f (claim_new t s.state s.hand a m s.kept s.sits may (omega arith))

new_by : (t : Shape) (d : Deed) (a : Account) (x : ℕ) (a' : Account) → May t d a → Did t d a x a' → (m : ℕ) → d ≡ deed.Claim m → x < scheduled t m → mark a m x ≡ free
new_by t d a x a' may did m e lt = was_free t a x a' m (subst (λ (d : Deed). May t d a) e may) (subst (λ (d : Deed). Did t d a x a') e did) lt

module _ (t : Shape) (d : Deed) (a : Account) (x : ℕ) (a' : Account) (may : May t d a) (did : Did t d a x a') where
  pub reported_after : reported_in t a' ≡ reported_in t a + reports d
  reported_after = ap (λ (b : Account). reported_in t b) did.account ∙ reported_by t a did.before d x may (new_by t d a x a' may did)

  pub acked_after : acked_in t a' ≡ acked_in t a + acknowledges d
  acked_after = ap (λ (b : Account). acked_in t b) did.account ∙ acked_by t a did.before d x may

-- the counts of a blank account
pub reported_none : (t : Shape) → reported_in t (blank t) ≡ 0
reported_none t = below_same (done_at t (blank t)) (λ _. 0) (managers t) (λ m l. count_none t done refl m (scheduled t m)) ∙ below_zero (managers t)

pub acked_in_none : (t : Shape) → acked_in t (blank t) ≡ 0
acked_in_none t = below_same (λ m. acked_at t m (blank t)) (λ _. 0) (managers t) (λ m l. acked_none t m) ∙ below_zero (managers t)

done_meet : (k l : Mark) → (k ≡ free) ⊎ (l ≡ free) → done (meet k l) ≡ done k + done l
done_meet k l h = ⊎_elim (λ e. let p : done (meet k l) ≡ done l = ap (λ (x : Mark). done (meet x l)) e in let q : done k ≡ 0 = ap done e in omega arith)
    (λ e. let p : done (meet k l) ≡ done k = ap (λ (x : Mark). done (meet k x)) e ∙ ap done (meet_free k) in let q : done l ≡ 0 = ap done e in omega arith) h

-- the counts of two that join
pub reported_both : (t : Shape) (a c : Account) → Disjoint t a c → reported_in t (united a c) ≡ reported_in t a + reported_in t c
reported_both t a c w = below_sum (done_at t a) (done_at t c) (done_at t (united a c)) (managers t)
    (λ m lm. below_sum (λ i. done (mark a m i)) (λ i. done (mark c m i)) (λ i. done (mark (united a c) m i)) (scheduled t m)
    (λ i l. ap done (mark_united a c m i) ∙ done_meet (mark a m i) (mark c m i) (w.marks m i lm)))

pub acked_both : (t : Shape) (a c : Account) → acked_in t (united a c) ≡ acked_in t a + acked_in t c
acked_both t a c = below_sum (λ m. acked_at t m a) (λ m. acked_at t m c) (λ m. acked_at t m (united a c)) (managers t)
    (λ m lm. below_sum (λ n. acks a m n) (λ n. acks c m n) (λ n. acks (united a c) m n) (managers t) (λ n l. pairs_blend ◌+◌ zero-add add-zero a.acked c.acked m n))
