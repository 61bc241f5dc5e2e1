-- An acknowledgement keeps the balance.
use Rattle.std.proofs.Common.{◌≡◌, ℕ, ◌+◌, ◌-◌, ◌<◌, ◌≤◌, ◌≢◌, true, false, sym, refl, ap, ◌∙◌, arith, max, get_or-set_other, get_or-set_same, length-set}
use mathlib.Core.Option.{some}
use lib.ListN.{get_elem?}
use Rattle.quiet_core.specs.Rows.{put, put_pair}
use Rattle.quiet_core.specs.Account.{Shape, managers, Account, mark, has_met, posts, knows, acks, collects, entered}
use Rattle.quiet_core.specs.declared.deed.Deed.TheVariants as deed
use Rattle.quiet_core.specs.Step.{State, word, claim_at, coll_at, issued_at, reached, May, acted}
use Rattle.quiet_core.specs.Balance.{past, open_at, plain_at, owed_at, acked_at, UnitsAt, LettersAt, Balance}
use Rattle.quiet_core.specs.Clear.{Clear}
use Rattle.quiet_core.proofs.Clearing.{after_clear}
use Rattle.quiet_core.proofs.Sums.{sum_turn, each_turn, below_same, below_turn, pair_here, pair_beside, pair_apart}
use Rattle.quiet_core.proofs.Untouched.{split_at, next, weights_same, claims_same, issued_same, units_same, letters_same, collectors_same}
use Rattle.quiet_core.proofs.Acks.{ack_left}
use Rattle.quiet_core.proofs.Reached.{reached_field, leaf_climbs}

module _ (t : Shape) (s : State) (h : ℕ) (a : Account) (m n k : ℕ) (w : Balance t s) (at : get_elem? s.accounts h ≡ some a) (may : May t (deed.Ack m n k) a) where
  abbrev x : ℕ
  x = word s m

  abbrev c : Account
  c = record a { acked = put_pair a.acked m n (acks a m n + k) }

  abbrev b : Account
  b = reached t m (x - k) c

  abbrev s' : State
  s' = next t s h a b at m (x - k)

  field : {B : Type 0} (f : Account → B) → f (record c { at_root = true }) ≡ f c → f (record c { duties = put false c.duties m true }) ≡ f c → f b ≡ f c
  field f = reached_field f t m (x - k) c

  others : (j : ℕ) → j ≢ m → word s' j ≡ word s j
  others j ne = get_or-set_other s.words m j (x - k) 0 ne

  pub enough : k ≤ x
  enough = ack_left t s w h a at m n may.0 may.1 may.3 k may.5

  acks_here : acks b m n ≡ acks a m n + k
  acks_here = field (λ (y : Account). acks y m n) refl refl ∙ pair_here a.acked m n (acks a m n + k)

  acks_beside : (j : ℕ) → j ≢ n → acks b m j ≡ acks a m j
  acks_beside j ne = field (λ (y : Account). acks y m j) refl refl ∙ pair_beside a.acked m n j (acks a m n + k) ne

  acks_apart : (l j : ℕ) → l ≢ m → acks b l j ≡ acks a l j
  acks_apart l j ne = field (λ (y : Account). acks y l j) refl refl ∙ pair_apart a.acked m n l j (acks a m n + k) ne

  units_here : UnitsAt t s' m
  units_here = let z = w.sized.leaves_first in let l = may.0 in let wide = w.wide in let e = get_or-set_same s.words m (x - k) 0 (omega arith) in let f = others (claim_at t m) (omega arith) in
      let g = issued_same t s h a b at m (x - k) m (λ j lj. others (issued_at t m j) (omega arith)) in let v = w.units m may.0 in
      let o = sum_turn (open_at t m) s.accounts h a b at in let p' = sum_turn (plain_at t m) s.accounts h a b at in let q = sum_turn (owed_at t m) s.accounts h a b at in let r = sum_turn (acked_at t m) s.accounts h a b at in
      let fo = field (open_at t m) refl refl in let fp = field (plain_at t m) refl refl in let fq = field (owed_at t m) refl refl in
      let fr = below_turn (λ j. acks a m j) (λ j. acks b m j) (managers t) n may.1 (λ j lj ne. sym (acks_beside j ne)) in let one = acks_here in let more = enough in record {
        exact = let y = v.exact in omega arith;
        room = let y = v.room in omega arith;
        letters = let y = v.letters in omega arith;
      }

  letters_here : LettersAt t s' m n
  letters_here = let z = w.sized.leaves_first in let l = may.0 in let v = w.letters m n may.0 may.1 in let f = others (issued_at t m n) (omega arith) in
      let ps = field (λ (y : Account). posts y m n) refl refl in let ks = field (λ (y : Account). knows y m n) refl refl in let cs = field (λ (y : Account). collects y n) refl refl in record {
        all_posted = let r = sum_turn (λ (y : Account). posts y m n) s.accounts h a b at in let y = v.all_posted in omega arith;
        known = each_turn (λ (y : Account). knows y m n ≤ word s' (issued_at t m n)) s.accounts h b (λ j y e. let u = v.known j y e in omega arith) (let u = v.known h a at in omega arith);
        only_collector = each_turn (λ (y : Account). collects y n ≡ 0 → acks y m n ≡ 0) s.accounts h b v.only_collector (λ e. absurd (let one = may.3 in omega arith));
        acked = each_turn (λ (y : Account). acks y m n ≤ max (knows y m n) (posts y m n)) s.accounts h b v.acked (let u = acks_here in let r = may.5 in omega arith);
      }

  pub ack_keeps : Balance t (acted t h a (deed.Ack m n k) s)
  ack_keeps = let z = w.sized.leaves_first in let lm = may.0 in let wide = w.wide in record {
    sized = w.sized;
    wide = length-set s.words m (x - k) ∙ w.wide;
    weights = weights_same t s h a b at m (x - k) (field (λ (y : Account). y.weight) refl refl) may.2 w.weights;
    claims = λ l ll. claims_same t s h a b at m (x - k) l (others (claim_at t l) (omega arith))
        (λ j. ap entered (field (λ (y : Account). mark y l j) refl refl)) (field (past l) refl refl) (field (λ (y : Account). has_met y l) refl refl)
        (w.claims l ll);
    units = split_at (λ l. l < managers t → UnitsAt t s' l) m (λ l. units_here)
        (λ l ne ll. units_same t s h a b at m (x - k) l (others l ne) (others (claim_at t l) (omega arith)) (issued_same t s h a b at m (x - k) l (λ j lj. others (issued_at t l j) (omega arith)))
        (field (open_at t l) refl refl) (field (plain_at t l) refl refl) (field (owed_at t l) refl refl)
        (below_same (λ j. acks b l j) (λ j. acks a l j) (managers t) (λ j lj. acks_apart l j ne)) (w.units l ll));
    letters = split_at (λ l. (j : ℕ) → l < managers t → j < managers t → LettersAt t s' l j) m
        (split_at (λ j. m < managers t → j < managers t → LettersAt t s' m j) n (λ l u. letters_here)
        (λ j ne l lj. letters_same t s h a b at m (x - k) m j (others (issued_at t m j) (omega arith)) (field (λ (y : Account). posts y m j) refl refl) (field (λ (y : Account). knows y m j) refl refl)
        (acks_beside j ne) (field (λ (y : Account). collects y j) refl refl) (w.letters m j l lj)))
        (λ l ne j ll lj. letters_same t s h a b at m (x - k) l j (others (issued_at t l j) (omega arith)) (field (λ (y : Account). posts y l j) refl refl) (field (λ (y : Account). knows y l j) refl refl)
        (acks_apart l j ne) (field (λ (y : Account). collects y j) refl refl) (w.letters l j ll lj));
    collectors = λ j l. collectors_same t s h a b at m (x - k) j (others (coll_at t j) (omega arith)) (field (λ (y : Account). collects y j) refl refl) (w.collectors j l);
    climbs = leaf_climbs t s h a at c m (x - k) (omega arith) (let o = enough in let one = may.4 in omega arith) (omega arith) refl refl w.climbs lm (λ j. refl);
    clear = each_turn (Clear t) s.accounts h b w.clear (after_clear t (deed.Ack m n k) x a (may.0, may.1) (w.clear h a at));
  }
