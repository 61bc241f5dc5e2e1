-- What the words and the account of the whole weight tell at the end of a round.
use Rattle.std.proofs.Common.{◌≡◌, ℕ, zero, suc, ◌+◌, ◌-◌, ◌*◌, ◌<◌, ◌≤◌, Bool, true, false, cond, eqb, List, [], ◌∷◌, length, get_or, drop, sum, min, sym, refl, ap, ◌∙◌, subst, arith, zero-mul, eq-eqb, ne_eqb, length-drop, length-take}
use mathlib.Core.Logic.{dite}
use native.Mathlib.Decide.{ℕ_discrete, dec_lt, dec_le}
use Rattle.quiet_core.specs.Rows.{below, bit}
use Rattle.quiet_core.specs.Account.{Shape, managers, scheduled, root, parent, Mark, free, fresh, told, reported, twice, Account, mark, posts, acks, has_duty, entered, opened, owing, done}
use Rattle.quiet_core.specs.Step.{State, word, claim_at, issued_at}
use Rattle.quiet_core.specs.Balance.{Balance, open_at, owed_at, acked_at, duties_at, alive}
use Rattle.quiet_core.specs.Quiet.{Quiet}
use Rattle.quiet_core.proofs.Sums.{le_sum, le_below, below_le, below_same, below_sum, below_zero, below_tight}
use Rattle.quiet_core.proofs.Blank.{posts_none, acks_none, acked_none, count_none, duty_none}
use Rattle.quiet_core.proofs.Acks.{pair_acked}
use Rattle.quiet_core.proofs.Whole.{sum_is, root_is, whole_quiet, entered_at_most}
use Rattle.atomic_table.specs.Table.{Final, Seen}
use Rattle.quiescence.specs.Rule.{View, state_of, Kept}
use Rattle.quiescence.proofs.Plays.{at_account}
use Rattle.quiescence.specs.Counts.{scheduled_in, done_at, reported_in, posted_at, posted_in, acked_in, duties_in}
use Rattle.quiescence.specs.Ended.{Ends, inner_words, posted_words, working_in}
use Rattle.quiescence.proofs.Keeping.{done_entered, done_most, below_most}
use Rattle.quiescence.proofs.Totals.{sum_is_below, below_rows}
use Rattle.std.proofs.lemmas.List.{get_or-drop, get_or-take}

-- a sum below n where each term stands at one place of its own
point : (v i n : ℕ) → i < n → below (λ j. cond (eqb i j) v 0) n ≡ v
point v i zero l = absurd (omega arith)
point v i (suc n) l = dite (ℕ_discrete i n)
    (λ e. let h : cond (eqb i n) v 0 ≡ v = ap (λ (b : Bool). cond b v 0) (eq-eqb i n e) in
    let z = below_same (λ j. cond (eqb i j) v 0) (λ _. 0) n (λ j lj. ap (λ (b : Bool). cond b v 0) (ne_eqb i j (λ q. omega arith))) in let o = below_zero n in omega arith)
    (λ ne. let h : cond (eqb i n) v 0 ≡ 0 = ap (λ (b : Bool). cond b v 0) (ne_eqb i n ne) in let r = point v i n (omega arith) in omega arith)

spread : (p g : ℕ → ℕ) (k n : ℕ) → ((c : ℕ) → c < k → p c < n) → below (λ j. below (λ c. cond (eqb (p c) j) (g c) 0) k) n ≡ below g k
spread p g zero n h = below_zero n
spread p g (suc k) n h =
    let s = below_sum (λ j. cond (eqb (p k) j) (g k) 0) (λ j. below (λ c. cond (eqb (p c) j) (g c) 0) k) (λ j. below (λ c. cond (eqb (p c) j) (g c) 0) (suc k)) n (λ j l. refl) in
    let o = point (g k) (p k) n (h k (omega arith)) in let r = spread p g k n (λ c l. h c (omega arith)) in omega arith

below_ones : (n : ℕ) → below (λ _. 1) n ≡ n
below_ones zero = refl
below_ones (suc n) = let r = below_ones n in omega arith

done_shut : (k : Mark) → done k ≡ 1 → (opened k ≡ 0) × (owing k ≡ 0)
done_shut free e = absurd (omega arith)
done_shut fresh e = absurd (omega arith)
done_shut (told k) e = absurd (omega arith)
done_shut reported e = (refl, refl)
done_shut twice e = (refl, refl)

bit_true : (b : Bool) → bit b ≡ 1 → b ≡ true
bit_true true e = refl
bit_true false e = absurd (omega arith)

bit_false : (b : Bool) → bit b ≡ 0 → b ≡ false
bit_false true e = absurd (omega arith)
bit_false false e = refl

bit_few : (b : Bool) → bit b ≤ 1
bit_few true = omega arith
bit_few false = omega arith

-- a test on a number above m
same_test : (p m i : ℕ) → m ≤ p → eqb p (m + i) ≡ eqb (p - m) i
same_test p m i l = dite (ℕ_discrete p (m + i)) (λ e. eq-eqb p (m + i) e ∙ sym (eq-eqb (p - m) i (omega arith))) (λ ne. ne_eqb p (m + i) ne ∙ sym (ne_eqb (p - m) i (λ e. ne (omega arith))))

module _ (t : Shape) (a : Account) (words : List ℕ) (e : Ends t a words) (whole : a.weight ≡ t.hands) where
  abbrev s : State
  s = record { words = words; accounts = e.accounts }

  -- the word of a pair is what was posted
  pub pair_is : (m n : ℕ) → m < managers t → n < managers t → word s (issued_at t m n) ≡ posts a m n
  pair_is m n lm ln = (e.kept.letters m n lm ln).all_posted ∙ sum_is t s e.hand a e.kept e.sits whole (λ (c : Account). posts c m n) (posts_none t m n)

  acks_le : (m n : ℕ) → m < managers t → n < managers t → acks a m n ≤ posts a m n
  acks_le m n lm ln = let p = pair_is m n lm ln in let l = pair_acked t s e.kept m n lm ln in let i = sum_is t s e.hand a e.kept e.sits whole (λ (c : Account). acks c m n) (acks_none t m n) in omega arith

  row_le : (m : ℕ) → m < managers t → acked_at t m a ≤ posted_at t a m
  row_le m lm = below_le (λ n. acks a m n) (λ n. posts a m n) (managers t) (λ n ln. acks_le m n lm ln)

  pub acked_few : acked_in t a ≤ posted_in t a
  acked_few = below_le (λ m. acked_at t m a) (λ m. posted_at t a m) (managers t) row_le

  done_le : (m : ℕ) → m < managers t → (i : ℕ) → done (mark a m i) ≤ 1
  done_le m lm i = let o = entered_at_most t s e.hand a e.kept e.sits m i lm in let d = done_entered (mark a m i) in omega arith

  done_row : (m : ℕ) → m < managers t → done_at t a m ≤ scheduled t m
  done_row m lm = done_most (λ i. done (mark a m i)) (scheduled t m) (done_le m lm)

  pub reported_few : reported_in t a ≤ scheduled_in t
  reported_few = below_le (done_at t a) (λ m. scheduled t m) (managers t) done_row

  duty_is : (c : ℕ) → duties_at c s ≡ bit (has_duty a c)
  duty_is c = sum_is t s e.hand a e.kept e.sits whole (λ (y : Account). bit (has_duty y c)) (ap bit (duty_none t c))

  -- the inner nodes count the nodes that have a word, and the duties
  pub alive_is : below (λ i. word s (managers t + i)) (root t + 1 - managers t) ≡ working_in t words + duties_in t a
  alive_is =
      let z = e.kept.sized in let f = z.leaves_first in
      let kids = below_same (λ i. word s (managers t + i)) (λ i. below (λ c. cond (eqb (parent t c - managers t) i) (alive s c) 0) (root t)) (root t + 1 - managers t)
      (λ i l. e.kept.climbs.kids (managers t + i) (omega arith) (omega arith) ∙ below_same (λ c. cond (eqb (parent t c) (managers t + i)) (alive s c) 0) (λ c. cond (eqb (parent t c - managers t) i) (alive s c) 0) (root t)
      (λ c lc. ap (λ (b : Bool). cond b (alive s c) 0) (let q = z.parents_inner c lc in same_test (parent t c) (managers t) i q))) in
      let all = spread (λ c. parent t c - managers t) (λ c. alive s c) (root t) (root t + 1 - managers t) (λ c l. let q = z.parents_inner c l in let r = z.parents_below c l in omega arith) in
      let two = below_sum (λ c. min (word s c) 1) (λ c. bit (has_duty a c)) (λ c. alive s c) (root t) (λ c l. ap (λ (k : ℕ). min (word s c) 1 + k) (duty_is c)) in
      omega arith

  pub at_end : word s (root t) ≡ 0 → (a.at_root ≡ true) × Quiet t.sched (a ∷ [])
  at_end z = let r = root_is t s e.hand a e.kept e.sits whole in (bit_true a.at_root (omega arith), whole_quiet t s e.hand a e.kept e.sits whole z)

  pub before_end : 1 ≤ word s (root t) → a.at_root ≡ false
  before_end o = let r = root_is t s e.hand a e.kept e.sits whole in bit_false a.at_root (omega arith)

  -- where all is reported and acknowledged and no duty is held, all words of the nodes are 0
  module _ (r : scheduled_in t ≤ reported_in t a) (k : posted_in t a ≤ acked_in t a) (d : duties_in t a ≡ 0) where
    all_done : (m i : ℕ) → m < managers t → i < scheduled t m → done (mark a m i) ≡ 1
    all_done m i lm li =
        let row = below_tight (done_at t a) (λ m. scheduled t m) (managers t) m lm done_row r in
        let ones = below_ones (scheduled t m) in
        below_tight (λ i. done (mark a m i)) (λ _. 1) (scheduled t m) i li (λ i l. done_le m lm i) (omega arith)

    all_claimed : (m : ℕ) → m < managers t → scheduled t m ≤ word s (claim_at t m)
    all_claimed m lm = dite (dec_le (scheduled t m) (word s (claim_at t m))) (λ l. l)
        (λ n. let i : ℕ = word s (claim_at t m) in let o = all_done m (word s (claim_at t m)) lm (omega arith) in let g = done_entered (mark a m (word s (claim_at t m))) in
        let z = (e.kept.claims m lm).later (word s (claim_at t m)) (omega arith) in let l = le_sum (λ (y : Account). entered (mark y m (word s (claim_at t m)))) e.accounts e.hand a e.sits in absurd (omega arith))

    leaf_zero : (m : ℕ) → m < managers t → word s m ≡ 0
    leaf_zero m lm =
        let x = (e.kept.units m lm).exact in
        let c = all_claimed m lm in
        let o = sum_is t s e.hand a e.kept e.sits whole (open_at t m) (count_none t opened refl m (scheduled t m)) in
        let w = sum_is t s e.hand a e.kept e.sits whole (owed_at t m) (count_none t owing refl m (scheduled t m)) in
        let g = sum_is t s e.hand a e.kept e.sits whole (acked_at t m) (acked_none t m) in
        let o' = below_same (λ i. opened (mark a m i)) (λ _. 0) (scheduled t m) (λ i l. (done_shut (mark a m i) (all_done m i lm l)).0) in
        let w' = below_same (λ i. owing (mark a m i)) (λ _. 0) (scheduled t m) (λ i l. (done_shut (mark a m i) (all_done m i lm l)).1) in
        let z = below_zero (scheduled t m) in
        let p = below_same (λ n. word s (issued_at t m n)) (λ n. posts a m n) (managers t) (λ n ln. pair_is m n lm ln) in
        let q = below_tight (λ m. acked_at t m a) (λ m. posted_at t a m) (managers t) m lm row_le k in
        omega arith

    no_duty : (c : ℕ) → c < root t → duties_at c s ≡ 0
    no_duty c l = let b = le_below (λ c. bit (has_duty a c)) (root t) c l in let i = duty_is c in omega arith

    -- up the tree
    word_zero : (n j : ℕ) → j < n → j ≤ root t → word s j ≡ 0
    word_zero zero j l u = absurd (omega arith)
    word_zero (suc n) j l u = dite (dec_lt j (managers t)) (λ lm. leaf_zero j lm)
        (λ ge. e.kept.climbs.kids j (omega arith) u ∙ below_same (λ c. cond (eqb (parent t c) j) (alive s c) 0) (λ _. 0) (root t)
        (λ c lc. dite (ℕ_discrete (parent t c) j)
        (λ is. let up = e.kept.sized.parents_above c lc in let w = word_zero n c (omega arith) (omega arith) in let f = no_duty c lc in
        let g : cond (eqb (parent t c) j) (alive s c) 0 ≡ alive s c = ap (λ (b : Bool). cond b (alive s c) 0) (eq-eqb (parent t c) j is) in omega arith)
        (λ ne. ap (λ (b : Bool). cond b (alive s c) 0) (ne_eqb (parent t c) j ne))) ∙ below_zero (root t))

  pub something : (x y z : ℕ) → 1 ≤ word s (root t) → x + reported_in t a ≡ scheduled_in t → y + acked_in t a ≡ posted_in t a → z ≡ duties_in t a → 1 ≤ x + y + z
  something x y z o ex ey ez = dite (dec_le 1 (x + y + z)) (λ l. l) (λ n. let w = word_zero (omega arith) (omega arith) (omega arith) (root t + 1) (root t) (omega arith) (omega arith) in absurd (omega arith))

-- what the end of a table tells
pub ends_at : (t : Shape) (id : ℕ) (v : View) (ws : List ℕ) (xs : List (Unit {0})) → Final (Seen (Kept t) id v) ws xs → (words : List ℕ) → ws ≡ words → Ends t v.account words
ends_at t id v ws xs f words e = record {
  accounts = (state_of f.0).accounts;
  hand = id;
  kept = subst (λ (l : List ℕ). Balance t record { words = l; accounts = (state_of f.0).accounts }) (f.2 ∙ e) f.1.0;
  sits = at_account f.0.views id v f.1.1;
}

-- the sums that the code makes of the words
module _ (t : Shape) (a : Account) (words : List ℕ) (e : Ends t a words) (whole : a.weight ≡ t.hands) where
  first : issued_at t 0 0 ≡ root t + 1 + managers t + managers t
  first = let z = zero-mul (managers t) in omega arith

  pub letters_are : (m n : ℕ) → m < managers t → n < managers t → get_or (posted_words t words) (m * managers t + n) 0 ≡ posts a m n
  letters_are m n lm ln = get_or-drop (issued_at t 0 0) words (m * managers t + n) 0 ∙ ap (λ (k : ℕ). get_or words k 0) (let f = first in omega arith) ∙ pair_is t a words e whole m n lm ln

  pub pairs_are : length (posted_words t words) ≡ managers t * managers t
  pairs_are = length-drop (issued_at t 0 0) words ∙ (let f = first in let w = e.kept.wide in omega arith)

  pub posted_sum : sum (posted_words t words) ≡ posted_in t a
  posted_sum = sum_is_below (posted_words t words) ∙ ap (below (λ i. get_or (posted_words t words) i 0)) pairs_are ∙ below_rows (λ i. get_or (posted_words t words) i 0) (managers t) (managers t)
      ∙ below_same (λ m. below (λ n. get_or (posted_words t words) (m * managers t + n) 0) (managers t)) (λ m. posted_at t a m) (managers t)
      (λ m lm. below_same (λ n. get_or (posted_words t words) (m * managers t + n) 0) (λ n. posts a m n) (managers t) (λ n ln. letters_are m n lm ln))

  pub posted_fits : posted_in t a ≤ 16384000000
  posted_fits =
      let row : (m : ℕ) → m < managers t → posted_at t a m ≤ 1024000000 = λ m lm. (let u = (e.kept.units m lm).letters in let f = e.kept.sized.few_scheduled m lm in
      let p = below_same (λ n. word (s t a words e whole) (issued_at t m n)) (λ n. posts a m n) (managers t) (λ n ln. pair_is t a words e whole m n lm ln) in omega arith) in
      let r = below_most (λ m. posted_at t a m) (managers t) 1024000000 row in let m = e.kept.sized.few_managers in omega arith

  inner_long : length (inner_words t words) ≡ root t + 1 - managers t
  inner_long = length-take (root t + 1 - managers t) (drop (managers t) words) ∙ (let d = length-drop (managers t) words in let w = e.kept.wide in omega arith)

  pub inner_sum : sum (inner_words t words) ≡ working_in t words + duties_in t a
  inner_sum = sum_is_below (inner_words t words) ∙ ap (below (λ i. get_or (inner_words t words) i 0)) inner_long
      ∙ below_same (λ i. get_or (inner_words t words) i 0) (λ i. get_or words (managers t + i) 0) (root t + 1 - managers t)
      (λ i l. get_or-take (root t + 1 - managers t) (drop (managers t) words) i 0 l ∙ get_or-drop (managers t) words i 0)
      ∙ alive_is t a words e whole

  pub inner_fits : sum (inner_words t words) ≤ 60
  inner_fits =
      let i = inner_sum in
      let z = e.kept.sized.few_nodes in
      let w = done_most (λ c. min (get_or words c 0) 1) (root t) (λ c. omega arith) in
      let d = done_most (λ c. bit (has_duty a c)) (root t) (λ c. bit_few (has_duty a c)) in
      omega arith
