-- A report keeps the balance.
use Rattle.std.proofs.Common.{◌≡◌, ℕ, ◌-◌, ◌<◌, ◌≢◌, true, false, sym, refl, ap, ◌∙◌, arith, get_or-set_other, get_or-set_same, length-set}
use mathlib.Core.Option.{some}
use lib.ListN.{get_elem?}
use Rattle.quiet_core.specs.Rows.{put}
use Rattle.quiet_core.specs.Account.{Shape, managers, scheduled, reported, Account, mark, has_met, posts, knows, acks, collects, entered, opened, plain, owing}
use Rattle.quiet_core.specs.declared.deed.Deed.TheVariants as deed
use Rattle.quiet_core.specs.Step.{State, word, claim_at, coll_at, issued_at, put_mark, reached, May, acted}
use Rattle.quiet_core.specs.Balance.{past, open_at, plain_at, owed_at, acked_at, ClaimsAt, UnitsAt, Balance}
use Rattle.quiet_core.specs.Clear.{Clear}
use Rattle.quiet_core.proofs.Clearing.{after_clear}
use Rattle.quiet_core.proofs.Sums.{each_turn, sum_turn}
use Rattle.quiet_core.proofs.Untouched.{split_at, mark_here, mark_beside, mark_apart, count_put, count_apart, next, weights_same, claims_same, issued_same, units_same, letters_same, collectors_same}
use Rattle.quiet_core.proofs.Acks.{entered_one, open_in, one_left}
use Rattle.quiet_core.proofs.Reached.{reached_field, leaf_climbs}

module _ (t : Shape) (s : State) (h : ℕ) (a : Account) (m i : ℕ) (w : Balance t s) (at : get_elem? s.accounts h ≡ some a) (may : May t (deed.Done m i) a) where
  abbrev x : ℕ
  x = word s m

  abbrev c : Account
  c = put_mark a m i reported

  abbrev b : Account
  b = reached t m (x - 1) c

  abbrev s' : State
  s' = next t s h a b at m (x - 1)

  field : {B : Type 0} (f : Account → B) → f (record c { at_root = true }) ≡ f c → f (record c { duties = put false c.duties m true }) ≡ f c → f b ≡ f c
  field f = reached_field f t m (x - 1) c

  others : (k : ℕ) → k ≢ m → word s' k ≡ word s k
  others k ne = get_or-set_other s.words m k (x - 1) 0 ne

  inside : i < scheduled t m
  inside = open_in t s w h a at m i may.0 may.2

  entered_same : (k : ℕ) → entered (mark b m k) ≡ entered (mark a m k)
  entered_same k = ap entered (field (λ (y : Account). mark y m k) refl refl) ∙ split_at (λ k. entered (mark c m k) ≡ entered (mark a m k)) i
      (ap entered (mark_here a m i reported) ∙ sym (entered_one (mark a m i) may.2)) (λ k ne. ap entered (mark_beside a m i k reported ne)) k

  units_here : UnitsAt t s' m
  units_here = let z = w.sized.leaves_first in let l = may.0 in let wide = w.wide in let e = get_or-set_same s.words m (x - 1) 0 (omega arith) in let f = others (claim_at t m) (omega arith) in
      let g = issued_same t s h a b at m (x - 1) m (λ k lk. others (issued_at t m k) (omega arith)) in let v = w.units m may.0 in
      let o = sum_turn (open_at t m) s.accounts h a b at in let p' = sum_turn (plain_at t m) s.accounts h a b at in let q = sum_turn (owed_at t m) s.accounts h a b at in let r = sum_turn (acked_at t m) s.accounts h a b at in
      let fo = field (open_at t m) refl refl in let fp = field (plain_at t m) refl refl in let fq = field (owed_at t m) refl refl in let fr = field (acked_at t m) refl refl in
      let o' = count_put opened a m i (scheduled t m) reported inside in let p'' = count_put plain a m i (scheduled t m) reported inside in let q' = count_put owing a m i (scheduled t m) reported inside in
      let eo = may.2 in let ew = may.3 in let one = one_left t s w h a at m i may.0 may.2 in record {
        exact = let y = v.exact in omega arith;
        room = let y = v.room in omega arith;
        letters = let y = v.letters in omega arith;
      }

  pub done_keeps : Balance t (acted t h a (deed.Done m i) s)
  done_keeps = let z = w.sized.leaves_first in let lm = may.0 in let wide = w.wide in record {
    sized = w.sized;
    wide = length-set s.words m (x - 1) ∙ w.wide;
    weights = weights_same t s h a b at m (x - 1) (field (λ (y : Account). y.weight) refl refl) may.1 w.weights;
    claims = split_at (λ k. k < managers t → ClaimsAt t s' k) m
        (λ l. claims_same t s h a b at m (x - 1) m (others (claim_at t m) (omega arith)) entered_same (field (past m) refl refl) (field (λ (y : Account). has_met y m) refl refl) (w.claims m l))
        (λ k ne l. claims_same t s h a b at m (x - 1) k (others (claim_at t k) (omega arith)) (λ j. ap entered (field (λ (y : Account). mark y k j) refl refl ∙ mark_apart a m k i j reported ne))
        (field (past k) refl refl) (field (λ (y : Account). has_met y k) refl refl) (w.claims k l));
    units = split_at (λ k. k < managers t → UnitsAt t s' k) m (λ l. units_here)
        (λ k ne l. units_same t s h a b at m (x - 1) k (others k ne) (others (claim_at t k) (omega arith)) (issued_same t s h a b at m (x - 1) k (λ j lj. others (issued_at t k j) (omega arith)))
        (field (open_at t k) refl refl ∙ count_apart opened a m k i (scheduled t k) reported ne) (field (plain_at t k) refl refl ∙ count_apart plain a m k i (scheduled t k) reported ne)
        (field (owed_at t k) refl refl ∙ count_apart owing a m k i (scheduled t k) reported ne) (field (acked_at t k) refl refl) (w.units k l));
    letters = λ k j lk lj. letters_same t s h a b at m (x - 1) k j (others (issued_at t k j) (omega arith)) (field (λ (y : Account). posts y k j) refl refl) (field (λ (y : Account). knows y k j) refl refl)
        (field (λ (y : Account). acks y k j) refl refl) (field (λ (y : Account). collects y j) refl refl) (w.letters k j lk lj);
    collectors = λ k l. collectors_same t s h a b at m (x - 1) k (others (coll_at t k) (omega arith)) (field (λ (y : Account). collects y k) refl refl) (w.collectors k l);
    climbs = leaf_climbs t s h a at c m (x - 1) (omega arith) (let o = one_left t s w h a at m i may.0 may.2 in omega arith) (omega arith) refl refl w.climbs lm (λ k. refl);
    clear = each_turn (Clear t) s.accounts h b w.clear (after_clear t (deed.Done m i) x a may.0 (w.clear h a at));
  }
