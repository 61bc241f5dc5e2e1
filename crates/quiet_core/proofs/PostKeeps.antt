-- A post keeps the balance.
use Rattle.std.proofs.Common.{◌≡◌, ℕ, ◌+◌, ◌-◌, ◌^◌, ◌<◌, ◌≤◌, ◌≢◌, sym, refl, ap, ◌∙◌, arith, max, get_or-set_other, get_or-set_same, length-set}
use mathlib.Core.Option.{some}
use lib.ListN.{get_elem?}
use Rattle.quiet_core.specs.Account.{Shape, managers, scheduled, Mark, free, fresh, told, reported, twice, Account, mark, posts, knows, acks, collects, entered, opened, plain, owing}
use Rattle.quiet_core.specs.declared.deed.Deed.TheVariants as deed
use Rattle.quiet_core.specs.Step.{State, word, claim_at, coll_at, issued_at, after, May, acted}
use Rattle.quiet_core.specs.Balance.{open_at, plain_at, owed_at, acked_at, ClaimsAt, UnitsAt, LettersAt, Balance}
use Rattle.quiet_core.specs.Clear.{Clear}
use Rattle.quiet_core.proofs.Clearing.{after_clear}
use Rattle.quiet_core.proofs.Sums.{le_sum, le_below, sum_turn, each_turn, below_turn, pair_here, pair_beside, pair_apart, pair_below, rows_apart}
use Rattle.quiet_core.proofs.Untouched.{split_at, mark_here, mark_beside, mark_apart, count_put, count_apart, next, weights_same, claims_same, issued_same, units_same, letters_same, collectors_same, climbs_same}
use Rattle.quiet_core.proofs.Acks.{entered_one, open_in}

module _ (t : Shape) (s : State) (h : ℕ) (a : Account) (m i to n : ℕ) (w : Balance t s) (at : get_elem? s.accounts h ≡ some a) (may : May t (deed.Post m i to n) a) where
  abbrev p : ℕ
  p = issued_at t m to

  abbrev x : ℕ
  x = word s (issued_at t m to)

  abbrev k : Mark
  k = told (owing (mark a m i) - n)

  abbrev b : Account
  b = after t (deed.Post m i to n) x a

  abbrev s' : State
  s' = next t s h a b at p (x + n)

  here : word s' p ≡ x + n
  here = get_or-set_same s.words p (x + n) 0 (let e = w.wide in let l = pair_below (managers t) m to may.0 may.1 in omega arith)

  others : (j : ℕ) → j ≢ p → word s' j ≡ word s j
  others j ne = get_or-set_other s.words p j (x + n) 0 ne

  row_else : (l j : ℕ) → j < managers t → l ≢ m → word s' (issued_at t l j) ≡ word s (issued_at t l j)
  row_else l j lj ne = others (issued_at t l j) (let r = rows_apart (managers t) m to l j may.1 lj ne in λ e. r (omega arith))

  inside : i < scheduled t m
  inside = open_in t s w h a at m i may.0 may.3

  entered_same : (j : ℕ) → entered (mark b m j) ≡ entered (mark a m j)
  entered_same = split_at (λ j. entered (mark b m j) ≡ entered (mark a m j)) i (ap entered (mark_here a m i k) ∙ sym (entered_one (mark a m i) may.3)) (λ j ne. ap entered (mark_beside a m i j k ne))

  not_plain : (l : Mark) → 1 ≤ owing l → plain l ≡ 0
  not_plain free e = absurd (omega arith)
  not_plain fresh e = absurd (omega arith)
  not_plain (told l) e = refl
  not_plain reported e = absurd (omega arith)
  not_plain twice e = absurd (omega arith)

  units_here : UnitsAt t s' m
  units_here = let z = w.sized.leaves_first in let l = may.0 in let e = others m (omega arith) in let f = others (claim_at t m) (omega arith) in let v = w.units m may.0 in
      let g = below_turn (λ j. word s (issued_at t m j)) (λ j. word s' (issued_at t m j)) (managers t) to may.1 (λ j lj ne. sym (others (issued_at t m j) (omega arith))) in let e' = here in
      let o = sum_turn (open_at t m) s.accounts h a b at in let p' = sum_turn (plain_at t m) s.accounts h a b at in let q = sum_turn (owed_at t m) s.accounts h a b at in let r = sum_turn (acked_at t m) s.accounts h a b at in
      let o' = count_put opened a m i (scheduled t m) k inside in let p'' = count_put plain a m i (scheduled t m) k inside in let q' = count_put owing a m i (scheduled t m) k inside in
      let eo = may.3 in let one = may.4 in let few = may.5 in let np = not_plain (mark a m i) (omega arith) in
      let lo = le_below (λ j. owing (mark a m j)) (scheduled t m) i inside in let ls = le_sum (owed_at t m) s.accounts h a at in record {
        exact = let y = v.exact in omega arith;
        room = let y = v.room in omega arith;
        letters = let y = v.letters in omega arith;
      }

  letters_here : LettersAt t s' m to
  letters_here = let v = w.letters m to may.0 may.1 in let e = here in let ps = pair_here a.posted m to (posts a m to + n) in let ks = pair_here a.known m to (x + n) in record {
    all_posted = let r = sum_turn (λ (y : Account). posts y m to) s.accounts h a b at in let y = v.all_posted in omega arith;
    known = each_turn (λ (y : Account). knows y m to ≤ word s' (issued_at t m to)) s.accounts h b (λ j y g. let u = v.known j y g in omega arith) (omega arith);
    only_collector = each_turn (λ (y : Account). collects y to ≡ 0 → acks y m to ≡ 0) s.accounts h b v.only_collector (λ e. v.only_collector h a at e);
    acked = each_turn (λ (y : Account). acks y m to ≤ max (knows y m to) (posts y m to)) s.accounts h b v.acked (let u = v.acked h a at in let q = v.known h a at in omega arith);
  }

  pub post_keeps : Balance t (acted t h a (deed.Post m i to n) s)
  post_keeps = let z = w.sized.leaves_first in let lm = may.0 in record {
    sized = w.sized;
    wide = length-set s.words p (x + n) ∙ w.wide;
    weights = weights_same t s h a b at p (x + n) refl may.2 w.weights;
    claims = split_at (λ l. l < managers t → ClaimsAt t s' l) m
        (λ l. claims_same t s h a b at p (x + n) m (others (claim_at t m) (omega arith)) entered_same refl refl (w.claims m l))
        (λ l ne ll. claims_same t s h a b at p (x + n) l (others (claim_at t l) (omega arith)) (λ j. ap entered (mark_apart a m l i j k ne)) refl refl (w.claims l ll));
    units = split_at (λ l. l < managers t → UnitsAt t s' l) m (λ l. units_here)
        (λ l ne ll. units_same t s h a b at p (x + n) l (others l (omega arith)) (others (claim_at t l) (omega arith)) (issued_same t s h a b at p (x + n) l (λ j lj. row_else l j lj ne))
        (count_apart opened a m l i (scheduled t l) k ne) (count_apart plain a m l i (scheduled t l) k ne) (count_apart owing a m l i (scheduled t l) k ne) refl (w.units l ll));
    letters = split_at (λ l. (j : ℕ) → l < managers t → j < managers t → LettersAt t s' l j) m
        (split_at (λ j. m < managers t → j < managers t → LettersAt t s' m j) to (λ l u. letters_here)
        (λ j ne l lj. letters_same t s h a b at p (x + n) m j (others (issued_at t m j) (omega arith)) (pair_beside a.posted m to j (posts a m to + n) ne) (pair_beside a.known m to j (x + n) ne) refl refl (w.letters m j l lj)))
        (λ l ne j ll lj. letters_same t s h a b at p (x + n) l j (row_else l j lj ne) (pair_apart a.posted m to l j (posts a m to + n) ne) (pair_apart a.known m to l j (x + n) ne) refl refl (w.letters l j ll lj));
    collectors = λ j l. collectors_same t s h a b at p (x + n) j (others (coll_at t j) (omega arith)) refl (w.collectors j l);
    climbs = climbs_same t s h a b at p (x + n) (λ c l. others c (omega arith)) (λ c. refl) refl w.climbs;
    clear = each_turn (Clear t) s.accounts h b w.clear (after_clear t (deed.Post m i to n) x a (may.0, may.1) (w.clear h a at));
  }

  pub post_fits : x + n < 2 ^ 64
  post_fits = let v = (w.units m may.0).letters in let f = w.sized.few_scheduled m may.0 in let g = le_below (λ j. word s (issued_at t m j)) (managers t) to may.1 in
      let lo = le_below (λ j. owing (mark a m j)) (scheduled t m) i inside in let ls = le_sum (owed_at t m) s.accounts h a at in let few = may.5 in omega arith
