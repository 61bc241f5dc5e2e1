-- A raise keeps the balance.
use Rattle.std.proofs.Common.{◌≡◌, ℕ, ◌+◌, ◌^◌, ◌<◌, ◌≤◌, ◌≢◌, sym, refl, ap, ◌∙◌, arith, min, get_or-set_other, get_or-set_same, length-set}
use mathlib.Core.Option.{some}
use lib.ListN.{get_elem?}
use Rattle.quiet_core.specs.Account.{Shape, managers, scheduled, root, told, Account, mark, entered, opened, plain, owing}
use Rattle.quiet_core.specs.declared.deed.Deed.TheVariants as deed
use Rattle.quiet_core.specs.Step.{State, word, claim_at, coll_at, issued_at, put_mark, May, acted}
use Rattle.quiet_core.specs.Balance.{open_at, plain_at, owed_at, acked_at, ClaimsAt, UnitsAt, Balance}
use Rattle.quiet_core.specs.Clear.{Clear}
use Rattle.quiet_core.proofs.Clearing.{put_clear}
use Rattle.quiet_core.proofs.Sums.{each_turn, le_sum, le_below, sum_turn}
use Rattle.quiet_core.proofs.Untouched.{split_at, mark_here, mark_beside, mark_apart, count_put, count_apart, next, weights_same, claims_same, issued_same, units_same, letters_same, collectors_same, climbs_alive}
use Rattle.quiet_core.proofs.Acks.{open_in, one_left}

module _ (t : Shape) (s : State) (h : ℕ) (a : Account) (m i n : ℕ) (w : Balance t s) (at : get_elem? s.accounts h ≡ some a) (may : May t (deed.Raise m i n) a) where
  abbrev x : ℕ
  x = word s m

  abbrev b : Account
  b = put_mark a m i (told n)

  abbrev s' : State
  s' = next t s h a b at m (x + n)

  here : word s' m ≡ x + n
  here = get_or-set_same s.words m (x + n) 0 (let e = w.wide in let l = may.0 in let z = w.sized.leaves_first in omega arith)

  others : (k : ℕ) → k ≢ m → word s' k ≡ word s k
  others k ne = get_or-set_other s.words m k (x + n) 0 ne

  open_now : opened (mark a m i) ≡ 1
  open_now = ap opened may.2

  inside : i < scheduled t m
  inside = open_in t s w h a at m i may.0 open_now

  entered_same : (k : ℕ) → entered (mark b m k) ≡ entered (mark a m k)
  entered_same = split_at (λ k. entered (mark b m k) ≡ entered (mark a m k)) i (ap entered (mark_here a m i (told n)) ∙ sym (ap entered may.2)) (λ k ne. ap entered (mark_beside a m i k (told n) ne))

  units_here : UnitsAt t s' m
  units_here = let z = w.sized.leaves_first in let l = may.0 in let e = here in let f = others (claim_at t m) (omega arith) in
      let g = issued_same t s h a b at m (x + n) m (λ k lk. others (issued_at t m k) (omega arith)) in let v = w.units m may.0 in
      let o = sum_turn (open_at t m) s.accounts h a b at in let p' = sum_turn (plain_at t m) s.accounts h a b at in let q = sum_turn (owed_at t m) s.accounts h a b at in let r = sum_turn (acked_at t m) s.accounts h a b at in
      let o' = count_put opened a m i (scheduled t m) (told n) inside in let p'' = count_put plain a m i (scheduled t m) (told n) inside in let q' = count_put owing a m i (scheduled t m) (told n) inside in
      let eo = open_now in let ep : plain (mark a m i) ≡ 1 = ap plain may.2 in let eq : owing (mark a m i) ≡ 0 = ap owing may.2 in let few = may.4 in
      let lp = le_sum (plain_at t m) s.accounts h a at in let lo = le_below (λ k. plain (mark a m k)) (scheduled t m) i inside in record {
        exact = let y = v.exact in omega arith;
        room = let y = v.room in omega arith;
        letters = let y = v.letters in omega arith;
      }

  pub raise_keeps : Balance t (acted t h a (deed.Raise m i n) s)
  raise_keeps = let z = w.sized.leaves_first in let lm = may.0 in record {
    sized = w.sized;
    wide = length-set s.words m (x + n) ∙ w.wide;
    weights = weights_same t s h a b at m (x + n) refl may.1 w.weights;
    claims = split_at (λ k. k < managers t → ClaimsAt t s' k) m
        (λ l. claims_same t s h a b at m (x + n) m (others (claim_at t m) (omega arith)) entered_same refl refl (w.claims m l))
        (λ k ne l. claims_same t s h a b at m (x + n) k (others (claim_at t k) (omega arith)) (λ j. ap entered (mark_apart a m k i j (told n) ne)) refl refl (w.claims k l));
    units = split_at (λ k. k < managers t → UnitsAt t s' k) m (λ l. units_here)
        (λ k ne l. units_same t s h a b at m (x + n) k (others k ne) (others (claim_at t k) (omega arith)) (issued_same t s h a b at m (x + n) k (λ j lj. others (issued_at t k j) (omega arith)))
        (count_apart opened a m k i (scheduled t k) (told n) ne) (count_apart plain a m k i (scheduled t k) (told n) ne) (count_apart owing a m k i (scheduled t k) (told n) ne) refl (w.units k l));
    letters = λ k j lk lj. letters_same t s h a b at m (x + n) k j (others (issued_at t k j) (omega arith)) refl refl refl refl (w.letters k j lk lj);
    collectors = λ k l. collectors_same t s h a b at m (x + n) k (others (coll_at t k) (omega arith)) refl (w.collectors k l);
    climbs = climbs_alive t s h a b at m (x + n)
        (split_at (λ c. c ≤ root t → min (word s' c) 1 ≡ min (word s c) 1) m
        (λ l. let e = here in let o = one_left t s w h a at m i lm open_now in omega arith) (λ c ne l. let e = others c ne in omega arith))
        (λ j l u. others j (omega arith)) (λ c. refl) refl w.climbs;
    clear = each_turn (Clear t) s.accounts h b w.clear (put_clear t a m i (told n) may.0 (w.clear h a at));
  }

  pub raise_fits : x + n < 2 ^ 64
  raise_fits = let r = (w.units m may.0).room in let f = w.sized.few_scheduled m may.0 in let few = may.4 in omega arith
