-- A collect and a look keep the balance.
use Rattle.std.proofs.Common.{◌≡◌, ℕ, ◌<◌, ◌≤◌, ◌≢◌, ◌⊎◌, inl, inr, eqb, set, sym, refl, ap, ◌∙◌, ⊎_elim, true≢false, arith, max, get_or-set_other, get_or-set_same, length-set, eq-eqb, eqb-true}
use mathlib.Core.Option.{some}
use lib.ListN.{get_elem?}
use Rattle.quiet_core.specs.Rows.{put, put_pair}
use Rattle.quiet_core.specs.Account.{Shape, managers, Account, mark, has_met, posts, knows, acks, collects, has_duty, entered}
use Rattle.quiet_core.specs.declared.deed.Deed.TheVariants as deed
use Rattle.quiet_core.specs.Step.{State, word, claim_at, coll_at, issued_at, May, acted}
use Rattle.quiet_core.specs.Balance.{past, open_at, plain_at, owed_at, acked_at, LettersAt, CollectorAt, Balance}
use Rattle.quiet_core.specs.Clear.{Clear}
use Rattle.quiet_core.proofs.Clearing.{turn_clear}
use Rattle.quiet_core.proofs.Sums.{put_here, put_else, le_sum, sum_turn, each_turn, pair_here, pair_beside, pair_apart, pair_below}
use Rattle.quiet_core.proofs.Untouched.{by_test, split_at, next, weights_same, claims_same, issued_same, units_same, letters_same, collectors_same, climbs_same}

module _ (t : Shape) (s : State) (h : ℕ) (a : Account) (n : ℕ) (w : Balance t s) (at : get_elem? s.accounts h ≡ some a) (may : May t (deed.Collect n) a) where
  abbrev p : ℕ
  p = coll_at t n

  abbrev x : ℕ
  x = word s (coll_at t n)

  module _ (b : Account) (same : (j : ℕ) → j ≢ n → collects b j ≡ collects a j) (now : (x ≡ 0) ⊎ (x ≡ 1)) (mine : x ≡ 0 → collects b n ≡ 1) (not : x ≡ 1 → collects b n ≡ collects a n)
      (is : b ≡ record a { collected = b.collected }) (cleared : Clear t b) where
    abbrev s' : State
    s' = next t s h a b at p 1

    here : word s' p ≡ 1
    here = get_or-set_same s.words p 1 0 (let e = w.wide in let l = may.0 in omega arith)

    others : (j : ℕ) → j ≢ p → word s' j ≡ word s j
    others j ne = get_or-set_other s.words p j 1 0 ne

    field : {B : Type 0} (f : Account → B) → f (record a { collected = b.collected }) ≡ f a → f b ≡ f a
    field f e = ap f is ∙ e

    collector_here : CollectorAt t s' n
    collector_here = let v = w.collectors n may.0 in let e = here in let r = sum_turn (λ (y : Account). collects y n) s.accounts h a b at in let l = le_sum (λ (y : Account). collects y n) s.accounts h a at in record {
      collector = let y = v.collector in ⊎_elim (λ z. let one = mine z in omega arith) (λ o. let one = not o in omega arith) now;
      one_collector = omega arith;
    }

    letters_here : (m : ℕ) → m < managers t → LettersAt t s' m n
    letters_here m lm = let v = w.letters m n lm may.0 in let l = may.0 in let f = others (issued_at t m n) (omega arith) in
        let ps = field (λ (y : Account). posts y m n) refl in let ks = field (λ (y : Account). knows y m n) refl in let cs = field (λ (y : Account). acks y m n) refl in record {
          all_posted = let r = sum_turn (λ (y : Account). posts y m n) s.accounts h a b at in let y = v.all_posted in omega arith;
          known = each_turn (λ (y : Account). knows y m n ≤ word s' (issued_at t m n)) s.accounts h b (λ j y e. let u = v.known j y e in omega arith) (let u = v.known h a at in omega arith);
          only_collector = each_turn (λ (y : Account). collects y n ≡ 0 → acks y m n ≡ 0) s.accounts h b v.only_collector
              (λ e. ⊎_elim (λ z. absurd (let one = mine z in omega arith)) (λ o. let one = not o in let u = v.only_collector h a at (omega arith) in omega arith) now);
          acked = each_turn (λ (y : Account). acks y m n ≤ max (knows y m n) (posts y m n)) s.accounts h b v.acked (let u = v.acked h a at in omega arith);
        }

    one_way : Balance t s'
    one_way = let z = w.sized.leaves_first in let ln = may.0 in record {
      sized = w.sized;
      wide = length-set s.words p 1 ∙ w.wide;
      weights = weights_same t s h a b at p 1 (field (λ (y : Account). y.weight) refl) may.1 w.weights;
      claims = λ l ll. claims_same t s h a b at p 1 l (others (claim_at t l) (omega arith)) (λ j. field (λ (y : Account). entered (mark y l j)) refl) (field (past l) refl) (field (λ (y : Account). has_met y l) refl) (w.claims l ll);
      units = λ l ll. units_same t s h a b at p 1 l (others l (omega arith)) (others (claim_at t l) (omega arith)) (issued_same t s h a b at p 1 l (λ j lj. others (issued_at t l j) (omega arith)))
          (field (open_at t l) refl) (field (plain_at t l) refl) (field (owed_at t l) refl) (field (acked_at t l) refl) (w.units l ll);
      letters = λ l. split_at (λ j. l < managers t → j < managers t → LettersAt t s' l j) n (λ ll u. letters_here l ll)
          (λ j ne ll lj. letters_same t s h a b at p 1 l j (others (issued_at t l j) (omega arith)) (field (λ (y : Account). posts y l j) refl)
          (field (λ (y : Account). knows y l j) refl) (field (λ (y : Account). acks y l j) refl) (same j ne) (w.letters l j ll lj));
      collectors = split_at (λ j. j < managers t → CollectorAt t s' j) n (λ l. collector_here)
          (λ j ne l. collectors_same t s h a b at p 1 j (others (coll_at t j) (omega arith)) (same j ne) (w.collectors j l));
      climbs = climbs_same t s h a b at p 1 (λ c l. others c (omega arith)) (λ c. field (λ (y : Account). has_duty y c) refl) (field (λ (y : Account). y.at_root) refl) w.climbs;
      clear = each_turn (Clear t) s.accounts h b w.clear cleared;
    }

  pub collect_keeps : Balance t (acted t h a (deed.Collect n) s)
  collect_keeps = let o = (w.collectors n may.0).one_collector in
      by_test (λ (c : Account). Balance t record { words = set s.words p 1; accounts = set s.accounts h c }) (eqb x 0) (record a { collected = put 0 a.collected n 1 }) a
      (λ e. let z = eqb-true x 0 e in one_way (record a { collected = put 0 a.collected n 1 }) (λ j ne. put_else 0 a.collected n j 1 ne) (inl z) (λ _. put_here 0 a.collected n 1) (λ f. absurd (omega arith)) refl (turn_clear t a n may.0 (w.clear h a at)))
      (λ e. let nz : x ≢ 0 = λ z. absurd (true≢false (sym (eq-eqb x 0 z) ∙ e)) in one_way a (λ j ne. refl) (inr (omega arith)) (λ z. absurd (nz z)) (λ f. refl) refl (w.clear h a at))

  -- who finds 0 has acknowledged nothing to n
  pub collect_new : x ≡ 0 → (m : ℕ) → m < managers t → acks a m n ≡ 0
  collect_new z m lm = let v = w.collectors n may.0 in let l = le_sum (λ (y : Account). collects y n) s.accounts h a at in (w.letters m n lm may.0).only_collector h a at (let c = v.collector in omega arith)

module _ (t : Shape) (s : State) (h : ℕ) (a : Account) (m n : ℕ) (w : Balance t s) (at : get_elem? s.accounts h ≡ some a) (may : May t (deed.Look m n) a) where
  abbrev q : ℕ
  q = issued_at t m n

  abbrev y : ℕ
  y = word s (issued_at t m n)

  abbrev c : Account
  c = record a { known = put_pair a.known m n y }

  abbrev s'' : State
  s'' = next t s h a c at q y

  words_same : (k : ℕ) → word s'' k ≡ word s k
  words_same = split_at (λ k. word s'' k ≡ word s k) q (get_or-set_same s.words q y 0 (let e = w.wide in let l = pair_below (managers t) m n may.0 may.1 in omega arith)) (λ k ne. get_or-set_other s.words q k y 0 ne)

  letters_there : LettersAt t s'' m n
  letters_there = let v = w.letters m n may.0 may.1 in let e = words_same (issued_at t m n) in let ks = pair_here a.known m n y in record {
    all_posted = let r = sum_turn (λ (z : Account). posts z m n) s.accounts h a c at in let u = v.all_posted in omega arith;
    known = each_turn (λ (z : Account). knows z m n ≤ word s'' (issued_at t m n)) s.accounts h c (λ j z g. let u = v.known j z g in omega arith) (omega arith);
    only_collector = each_turn (λ (z : Account). collects z n ≡ 0 → acks z m n ≡ 0) s.accounts h c v.only_collector (λ e. v.only_collector h a at e);
    acked = each_turn (λ (z : Account). acks z m n ≤ max (knows z m n) (posts z m n)) s.accounts h c v.acked (let u = v.acked h a at in let k = v.known h a at in omega arith);
  }

  pub look_keeps : Balance t (acted t h a (deed.Look m n) s)
  look_keeps = record {
    sized = w.sized;
    wide = length-set s.words q y ∙ w.wide;
    weights = weights_same t s h a c at q y refl may.2 w.weights;
    claims = λ l ll. claims_same t s h a c at q y l (words_same (claim_at t l)) (λ j. refl) refl refl (w.claims l ll);
    units = λ l ll. units_same t s h a c at q y l (words_same l) (words_same (claim_at t l)) (issued_same t s h a c at q y l (λ j lj. words_same (issued_at t l j))) refl refl refl refl (w.units l ll);
    letters = split_at (λ l. (j : ℕ) → l < managers t → j < managers t → LettersAt t s'' l j) m
        (split_at (λ j. m < managers t → j < managers t → LettersAt t s'' m j) n (λ l u. letters_there)
        (λ j ne l lj. letters_same t s h a c at q y m j (words_same (issued_at t m j)) refl (pair_beside a.known m n j y ne) refl refl (w.letters m j l lj)))
        (λ l ne j ll lj. letters_same t s h a c at q y l j (words_same (issued_at t l j)) refl (pair_apart a.known m n l j y ne) refl refl (w.letters l j ll lj));
    collectors = λ j l. collectors_same t s h a c at q y j (words_same (coll_at t j)) refl (w.collectors j l);
    climbs = climbs_same t s h a c at q y (λ k l. words_same k) (λ k. refl) refl w.climbs;
    clear = each_turn (Clear t) s.accounts h c w.clear (let z = w.clear h a at in record { marks = z.marks; posted = z.posted; acked = z.acked; collected = z.collected });
  }

  pub look_more : (knows a m n ≤ y) × (posts a m n ≤ y)
  look_more = let v = w.letters m n may.0 may.1 in (v.known h a at, (let l = le_sum (λ (z : Account). posts z m n) s.accounts h a at in let u = v.all_posted in omega arith))
