-- A claim keeps the balance.
use Rattle.std.proofs.Common.{◌≡◌, ℕ, ◌+◌, ◌^◌, ◌<◌, ◌≤◌, ◌≢◌, Bool, true, false, ◌||◌, cond, ltb, get_or, set, sum_by, refl, ap, ◌∙◌, arith, get_or-set_other, get_or-set_same, length-set, ltb-true, ltb-false}
use mathlib.Core.Option.{some}
use lib.ListN.{get_elem?}
use Rattle.std.proofs.lemmas.List.Sums.{sum_by-le-sum_by}
use Rattle.quiet_core.specs.Rows.{put}
use Rattle.quiet_core.specs.Account.{Shape, managers, scheduled, free, fresh, Account, mark, has_met, entered, opened, plain, owing}
use Rattle.quiet_core.specs.declared.deed.Deed.TheVariants as deed
use Rattle.quiet_core.specs.Step.{State, word, claim_at, coll_at, issued_at, put_mark, May, acted}
use Rattle.quiet_core.specs.Balance.{past, open_at, plain_at, owed_at, acked_at, ClaimsAt, UnitsAt, Balance}
use Rattle.quiet_core.specs.Clear.{Clear}
use Rattle.quiet_core.proofs.Clearing.{put_clear}
use Rattle.quiet_core.proofs.Sums.{put_here, put_else, le_sum, sum_turn, each_turn}
use Rattle.quiet_core.proofs.Untouched.{by_test, split_at, past_none, past_all, past_le, mark_here, mark_beside, mark_apart, count_put, count_apart}
use Rattle.quiet_core.proofs.Untouched.{next, weights_same, claims_same, issued_same, units_same, letters_same, collectors_same, climbs_same, freed}
use Rattle.quiet_core.proofs.Untouched.{nothing}

module _ (t : Shape) (s : State) (h : ℕ) (a : Account) (m : ℕ) (w : Balance t s) (at : get_elem? s.accounts h ≡ some a) (may : May t (deed.Claim m) a) where
  abbrev p : ℕ
  p = claim_at t m

  abbrev x : ℕ
  x = word s (claim_at t m)

  here : get_or (set s.words p (x + 1)) p 0 ≡ x + 1
  here = get_or-set_same s.words p (x + 1) 0 (let e = w.wide in let l = may.0 in omega arith)

  others : (k : ℕ) → k ≢ p → get_or (set s.words p (x + 1)) k 0 ≡ word s k
  others k ne = get_or-set_other s.words p k (x + 1) 0 ne

  -- the number that was found is new
  module _ (lt : x < scheduled t m) where
    abbrev b : Account
    b = put_mark a m x fresh

    abbrev s' : State
    s' = next t s h a b at p (x + 1)

    here_at : ClaimsAt t s m
    here_at = w.claims m may.0

    -- nobody had it
    unseen : entered (mark a m x) ≡ 0
    unseen = let z = here_at.later x (omega arith) in let l = le_sum (λ (c : Account). entered (mark c m x)) s.accounts h a at in omega arith

    tally_new : sum_by (λ (c : Account). entered (mark c m x)) s'.accounts ≡ 1
    tally_new = let z = here_at.later x (omega arith) in let r = sum_turn (λ (c : Account). entered (mark c m x)) s.accounts h a b at in
        let e : entered (mark b m x) ≡ 1 = ap entered (mark_here a m x fresh) in let u = unseen in omega arith

    tally_old : (i : ℕ) → i ≢ x → sum_by (λ (c : Account). entered (mark c m i)) s'.accounts ≡ sum_by (λ (c : Account). entered (mark c m i)) s.accounts
    tally_old i ne = let r = sum_turn (λ (c : Account). entered (mark c m i)) s.accounts h a b at in let e : entered (mark b m i) ≡ entered (mark a m i) = ap entered (mark_beside a m x i fresh ne) in omega arith

    claims_here : ClaimsAt t s' m
    claims_here = let e = here in record {
      once = split_at (λ i. i < word s' (claim_at t m) → i < scheduled t m → sum_by (λ (c : Account). entered (mark c m i)) s'.accounts ≡ 1) x (λ u v. tally_new)
          (λ i ne u v. tally_old i ne ∙ here_at.once i (omega arith) v);
      later = λ i u. tally_old i (omega arith) ∙ here_at.later i (omega arith);
      beyond = λ i u. tally_old i (omega arith) ∙ here_at.beyond i u;
      over = each_turn (λ (c : Account). has_met c m ≡ true → scheduled t m ≤ word s' (claim_at t m)) s.accounts h b
          (λ j c e' met. let o = here_at.over j c e' met in omega arith) (λ met. let o = here_at.over h a at met in omega arith);
      bound = omega arith;
    }

    units_here : UnitsAt t s' m
    units_here = let z = w.sized.leaves_first in let l = may.0 in let e = others m (omega arith) in let f = here in let g = issued_same t s h a b at p (x + 1) m (λ n ln. others (issued_at t m n) (omega arith)) in
        let u = unseen in let k = freed (mark a m x) u in let v = w.units m may.0 in
        let o = sum_turn (open_at t m) s.accounts h a b at in let p' = sum_turn (plain_at t m) s.accounts h a b at in let q = sum_turn (owed_at t m) s.accounts h a b at in let r = sum_turn (acked_at t m) s.accounts h a b at in
        let o' = count_put opened a m x (scheduled t m) fresh lt in let p'' = count_put plain a m x (scheduled t m) fresh lt in let q' = count_put owing a m x (scheduled t m) fresh lt in record {
          exact = let y = v.exact in omega arith;
          room = let y = v.room in omega arith;
          letters = let y = v.letters in omega arith;
        }

    claimed_keeps : Balance t s'
    claimed_keeps = let z = w.sized.leaves_first in record {
      sized = w.sized;
      wide = length-set s.words p (x + 1) ∙ w.wide;
      weights = weights_same t s h a b at p (x + 1) refl may.1 w.weights;
      claims = split_at (λ n. n < managers t → ClaimsAt t s' n) m (λ l. claims_here)
          (λ n ne l. claims_same t s h a b at p (x + 1) n (others (claim_at t n) (omega arith)) (λ i. ap entered (mark_apart a m n x i fresh ne)) refl refl (w.claims n l));
      units = split_at (λ n. n < managers t → UnitsAt t s' n) m (λ l. units_here)
          (λ n ne l. units_same t s h a b at p (x + 1) n (others n (omega arith)) (others (claim_at t n) (omega arith)) (issued_same t s h a b at p (x + 1) n (λ k lk. others (issued_at t n k) (omega arith)))
          (count_apart opened a m n x (scheduled t n) fresh ne) (count_apart plain a m n x (scheduled t n) fresh ne) (count_apart owing a m n x (scheduled t n) fresh ne) refl (w.units n l));
      letters = λ n k ln lk. letters_same t s h a b at p (x + 1) n k (others (issued_at t n k) (omega arith)) refl refl refl refl (w.letters n k ln lk);
      collectors = λ n l. collectors_same t s h a b at p (x + 1) n (others (coll_at t n) (omega arith)) refl (w.collectors n l);
      climbs = climbs_same t s h a b at p (x + 1) (λ c l. others c (omega arith)) (λ c. refl) refl w.climbs;
      clear = each_turn (Clear t) s.accounts h b w.clear (put_clear t a m x fresh may.0 (w.clear h a at));
    }

  -- all numbers are taken
  module _ (ge : scheduled t m ≤ x) where
    abbrev b' : Account
    b' = record a { exhausted = put false a.exhausted m true }

    abbrev s'' : State
    s'' = next t s h a b' at p (x + 1)

    met_else : (n : ℕ) → n ≢ m → has_met b' n ≡ has_met a n
    met_else n ne = put_else false a.exhausted m n true ne

    past_more : sum_by (past m) s''.accounts ≡ sum_by (past m) s.accounts + a.weight
    past_more = let r = sum_turn (past m) s.accounts h a b' at in let u = past_none a m may.3 may.2 in let v = past_all b' m (put_here false a.exhausted m true) in omega arith

    claims_here' : ClaimsAt t s'' m
    claims_here' = let here_at = w.claims m may.0 in let e = here in
        let same : (i : ℕ) → sum_by (λ (c : Account). entered (mark c m i)) s''.accounts ≡ sum_by (λ (c : Account). entered (mark c m i)) s.accounts =
        λ i. (let r = sum_turn (λ (c : Account). entered (mark c m i)) s.accounts h a b' at in omega arith) in record {
          once = λ i u v. same i ∙ here_at.once i (omega arith) v;
          later = λ i u. same i ∙ here_at.later i (omega arith);
          beyond = λ i u. same i ∙ here_at.beyond i u;
          over = each_turn (λ (c : Account). has_met c m ≡ true → scheduled t m ≤ word s'' (claim_at t m)) s.accounts h b' (λ j c e' met. omega arith) (λ met. omega arith);
          bound = let q = past_more in let o = here_at.bound in let one = may.1 in omega arith;
        }

    exhausted_keeps : Balance t s''
    exhausted_keeps = let z = w.sized.leaves_first in record {
      sized = w.sized;
      wide = length-set s.words p (x + 1) ∙ w.wide;
      weights = weights_same t s h a b' at p (x + 1) refl may.1 w.weights;
      claims = split_at (λ n. n < managers t → ClaimsAt t s'' n) m (λ l. claims_here')
          (λ n ne l. claims_same t s h a b' at p (x + 1) n (others (claim_at t n) (omega arith)) (λ i. refl) (ap (λ (k : Bool). cond (k || a.collecting) a.weight 0) (met_else n ne)) (met_else n ne) (w.claims n l));
      units = split_at (λ n. n < managers t → UnitsAt t s'' n) m
          (λ l. let e = others m (omega arith) in let f = here in let g = issued_same t s h a b' at p (x + 1) m (λ n ln. others (issued_at t m n) (omega arith)) in let v = w.units m may.0 in
          let o = sum_turn (open_at t m) s.accounts h a b' at in let p' = sum_turn (plain_at t m) s.accounts h a b' at in
          let q = sum_turn (owed_at t m) s.accounts h a b' at in let r = sum_turn (acked_at t m) s.accounts h a b' at in record {
            exact = let y = v.exact in omega arith;
            room = let y = v.room in omega arith;
            letters = let y = v.letters in omega arith;
          })
          (λ n ne l. units_same t s h a b' at p (x + 1) n (others n (omega arith)) (others (claim_at t n) (omega arith)) (issued_same t s h a b' at p (x + 1) n (λ k lk. others (issued_at t n k) (omega arith)))
          refl refl refl refl (w.units n l));
      letters = λ n k ln lk. letters_same t s h a b' at p (x + 1) n k (others (issued_at t n k) (omega arith)) refl refl refl refl (w.letters n k ln lk);
      collectors = λ n l. collectors_same t s h a b' at p (x + 1) n (others (coll_at t n) (omega arith)) refl (w.collectors n l);
      climbs = climbs_same t s h a b' at p (x + 1) (λ c l. others c (omega arith)) (λ c. refl) refl w.climbs;
      clear = each_turn (Clear t) s.accounts h b' w.clear (let c = w.clear h a at in record { marks = c.marks; posted = c.posted; acked = c.acked; collected = c.collected });
    }

  pub claim_keeps : Balance t (acted t h a (deed.Claim m) s)
  claim_keeps = by_test (λ (c : Account). Balance t record { words = set s.words p (x + 1); accounts = set s.accounts h c }) (ltb x (scheduled t m)) (put_mark a m x fresh) (record a { exhausted = put false a.exhausted m true })
      (λ e. claimed_keeps (ltb-true x (scheduled t m) e)) (λ e. exhausted_keeps (ltb-false x (scheduled t m) e))

  -- the claim stays within the limits of the word
  pub claim_fits : x + 1 < 2 ^ 64
  claim_fits = let o = (w.claims m may.0).bound in let l = sum_by-le-sum_by (past m) (λ (c : Account). c.weight) s.accounts (past_le m) in
      let e = w.weights.whole in let f = w.sized.few_scheduled m may.0 in let g = w.sized.few_hands in omega arith

  -- a number that was found below the scheduled is new at this hand
  pub claim_new : x < scheduled t m → mark a m x ≡ free
  claim_new lt = nothing (mark a m x) (unseen lt)
