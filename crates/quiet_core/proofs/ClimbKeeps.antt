-- A climb keeps the balance.
use Rattle.std.proofs.Common.{◌≡◌, ℕ, ◌+◌, ◌-◌, ◌<◌, ◌≤◌, ◌≢◌, Bool, true, false, cond, eqb, sym, refl, ap, ◌∙◌, arith, get_or-set_other, get_or-set_same, length-set, eq-eqb, ne_eqb}
use mathlib.Core.Option.{some}
use mathlib.Core.Logic.{dite}
use native.Mathlib.Decide.{ℕ_discrete, dec_lt}
use lib.ListN.{get_elem?}
use Rattle.quiet_core.specs.Rows.{put, below, bit}
use Rattle.quiet_core.specs.Account.{Shape, managers, root, parent, Account, mark, has_met, posts, knows, acks, collects, has_duty, entered}
use Rattle.quiet_core.specs.declared.deed.Deed.TheVariants as deed
use Rattle.quiet_core.specs.Step.{State, word, claim_at, coll_at, issued_at, reached, May, acted}
use Rattle.quiet_core.specs.Balance.{past, open_at, plain_at, owed_at, acked_at, duties_at, alive, Balance}
use Rattle.quiet_core.specs.Clear.{Clear}
use Rattle.quiet_core.proofs.Clearing.{after_clear}
use Rattle.quiet_core.proofs.Sums.{each_turn, put_here, put_else, le_sum, le_below, below_same, below_turn}
use Rattle.quiet_core.proofs.Untouched.{split_at, next, weights_same, claims_same, issued_same, units_same, letters_same, collectors_same}
use Rattle.quiet_core.proofs.Reached.{reached_field, lives, above, at_top}

module _ (t : Shape) (s : State) (h : ℕ) (a : Account) (k : ℕ) (w : Balance t s) (at : get_elem? s.accounts h ≡ some a) (may : May t (deed.Climb k) a) where
  abbrev j : ℕ
  j = parent t k

  abbrev x : ℕ
  x = word s (parent t k)

  abbrev c : Account
  c = record a { duties = put false a.duties k false }

  abbrev b : Account
  b = reached t j (x - 1) c

  abbrev s' : State
  s' = next t s h a b at j (x - 1)

  field : {B : Type 0} (f : Account → B) → f (record c { at_root = true }) ≡ f c → f (record c { duties = put false c.duties j true }) ≡ f c → f b ≡ f c
  field f = reached_field f t j (x - 1) c

  held : 1 ≤ duties_at k s
  held = let l = le_sum (λ (y : Account). bit (has_duty y k)) s.accounts h a at in let e : bit (has_duty a k) ≡ 1 = ap bit may.2 in omega arith

  pub inside : k < root t
  inside = dite (dec_lt k (root t)) (λ l. l) (λ n. absurd (let z = w.climbs.none_above k (omega arith) in let e = held in omega arith))

  counts : (z : State) → cond (eqb (parent t k) j) (alive z k) 0 ≡ alive z k
  counts z = ap (λ (e : Bool). cond e (alive z k) 0) (eq-eqb (parent t k) j refl)

  pub some_kids : 1 ≤ x
  some_kids = let e = w.climbs.kids j (w.sized.parents_inner k inside) (w.sized.parents_below k inside) in let l = le_below (λ c. cond (eqb (parent t c) j) (alive s c) 0) (root t) k inside in
      let f = counts s in let d = held in omega arith

  here : word s' j ≡ x - 1
  here = get_or-set_same s.words j (x - 1) 0 (let e = w.wide in let l = w.sized.parents_below k inside in omega arith)

  others : (y : ℕ) → y ≢ j → word s' y ≡ word s y
  others y ne = get_or-set_other s.words j y (x - 1) 0 ne

  duty_else : (y : ℕ) → y ≢ k → has_duty c y ≡ has_duty a y
  duty_else y ne = put_else false a.duties k y false ne

  duty_gone : bit (has_duty c k) ≡ 0
  duty_gone = ap bit (put_here false a.duties k false)

  living : (y : ℕ) → y < root t → alive s' y + bit (has_duty a y) ≡ alive s y + bit (has_duty c y)
  living = let up = w.sized.parents_above k inside in lives t s h a at c j (x - 1) (w.sized.parents_below k inside) (let o = some_kids in omega arith) (let e = w.wide in let l = w.sized.parents_below k inside in omega arith)
      (duty_else j (omega arith)) refl w.climbs

  none : (y : ℕ) → root t ≤ y → duties_at y s' ≡ 0
  none =
      let up = w.sized.parents_above k inside in
      let ins = inside in
      above t s h a at c j (x - 1) (w.sized.parents_below k inside) (let o = some_kids in omega arith)
      (let e = w.wide in let l = w.sized.parents_below k inside in omega arith)
      (duty_else j (omega arith)) refl w.climbs (λ y l. duty_else y (omega arith))

  fewer : (y : ℕ) → bit (has_duty c y) ≤ bit (has_duty a y)
  fewer = split_at (λ y. bit (has_duty c y) ≤ bit (has_duty a y)) k (let z = duty_gone in omega arith) (λ y ne. let e : bit (has_duty c y) ≡ bit (has_duty a y) = ap bit (duty_else y ne) in omega arith)

  living_same : (y : ℕ) → y < root t → y ≢ k → alive s' y ≡ alive s y
  living_same y l ne = let r = living y l in let e : bit (has_duty c y) ≡ bit (has_duty a y) = ap bit (duty_else y ne) in omega arith

  kids_here : word s' j ≡ below (λ c. cond (eqb (parent t c) j) (alive s' c) 0) (root t)
  kids_here = let e = w.climbs.kids j (w.sized.parents_inner k inside) (w.sized.parents_below k inside) in
      let r = below_turn (λ c. cond (eqb (parent t c) j) (alive s c) 0) (λ c. cond (eqb (parent t c) j) (alive s' c) 0) (root t) k inside
      (λ y l ne. ap (λ (z : ℕ). cond (eqb (parent t y) j) z 0) (sym (living_same y l ne))) in
      let f = counts s in let f' = counts s' in let g = living k inside in let d : bit (has_duty a k) ≡ 1 = ap bit may.2 in let z = duty_gone in let u = here in let o = some_kids in omega arith

  kids_else : (l : ℕ) → l ≢ j → managers t ≤ l → l ≤ root t → word s' l ≡ below (λ c. cond (eqb (parent t c) l) (alive s' c) 0) (root t)
  kids_else l ne u v = others l ne ∙ w.climbs.kids l u v ∙ below_same (λ c. cond (eqb (parent t c) l) (alive s c) 0) (λ c. cond (eqb (parent t c) l) (alive s' c) 0) (root t)
      (split_at (λ y. y < root t → cond (eqb (parent t y) l) (alive s y) 0 ≡ cond (eqb (parent t y) l) (alive s' y) 0) k
      (λ ly. let e : eqb (parent t k) l ≡ false = ne_eqb (parent t k) l (λ z. ne (sym z)) in ap (λ (z : Bool). cond z (alive s k) 0) e ∙ sym (ap (λ (z : Bool). cond z (alive s' k) 0) e))
      (λ y n ly. ap (λ (z : ℕ). cond (eqb (parent t y) l) z 0) (sym (living_same y ly n))))

  pub climb_keeps : Balance t (acted t h a (deed.Climb k) s)
  climb_keeps = let z = w.sized.leaves_first in let low = w.sized.parents_inner k inside in let high = w.sized.parents_below k inside in let up = w.sized.parents_above k inside in let wide = w.wide in record {
    sized = w.sized;
    wide = length-set s.words j (x - 1) ∙ w.wide;
    weights = weights_same t s h a b at j (x - 1) (field (λ (y : Account). y.weight) refl refl) may.1 w.weights;
    claims = λ l ll. claims_same t s h a b at j (x - 1) l (others (claim_at t l) (omega arith))
        (λ i. ap entered (field (λ (y : Account). mark y l i) refl refl)) (field (past l) refl refl) (field (λ (y : Account). has_met y l) refl refl)
        (w.claims l ll);
    units = λ l ll. units_same t s h a b at j (x - 1) l (others l (omega arith)) (others (claim_at t l) (omega arith)) (issued_same t s h a b at j (x - 1) l (λ i li. others (issued_at t l i) (omega arith)))
        (field (open_at t l) refl refl) (field (plain_at t l) refl refl) (field (owed_at t l) refl refl) (field (acked_at t l) refl refl) (w.units l ll);
    letters = λ l i ll li. letters_same t s h a b at j (x - 1) l i (others (issued_at t l i) (omega arith)) (field (λ (y : Account). posts y l i) refl refl) (field (λ (y : Account). knows y l i) refl refl)
        (field (λ (y : Account). acks y l i) refl refl) (field (λ (y : Account). collects y i) refl refl) (w.letters l i ll li);
    collectors = λ i l. collectors_same t s h a b at j (x - 1) i (others (coll_at t i) (omega arith)) (field (λ (y : Account). collects y i) refl refl) (w.collectors i l);
    climbs = record {
      one_each = λ y l. dite (ℕ_discrete y (root t)) (λ e. let n = none y (omega arith) in omega arith) (λ ne. let r = living y (omega arith) in let f = fewer y in let o = w.climbs.one_each y l in omega arith);
      none_above = none;
      kids = split_at (λ l. managers t ≤ l → l ≤ root t → word s' l ≡ below (λ c. cond (eqb (parent t c) l) (alive s' c) 0) (root t)) j (λ u v. kids_here) kids_else;
      top = at_top t s h a at c j (x - 1) high (let o = some_kids in omega arith) (omega arith) (duty_else j (omega arith)) refl w.climbs;
    };
    clear = each_turn (Clear t) s.accounts h b w.clear (after_clear t (deed.Climb k) x a inside (w.clear h a at));
  }
