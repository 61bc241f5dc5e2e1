-- The words at the opening are counted up the tree.
use Rattle.std.proofs.Common.{◌≡◌, ◌≢◌, ℕ, zero, suc, ◌+◌, ◌<◌, ◌≤◌, Bool, true, false, cond, eqb, List, [], ◌∷◌, ◌++◌, length, replicate, get_or}
use Rattle.std.proofs.Common.{set, sym, refl, ap, ◌∙◌, subst, arith, add-one, min, length-set, get_or-set_other, get_or-set_same, eq-eqb, ne_eqb}
use mathlib.Core.Logic.{dite}
use native.Mathlib.Decide.{ℕ_discrete}
use Rattle.quiet_core.specs.Rows.{below}
use Rattle.quiet_core.specs.Account.{Shape, managers, root, parent}
use Rattle.quiet_core.specs.Balance.{Sized}
use Rattle.quiet_core.proofs.Sums.{below_same, le_below}
use Rattle.quiet_core.proofs.Untouched.{split_at}
use Rattle.quiet_core.specs.Opening.{Leafy, Counted, Somebody, Opening}

cond_few : (b : Bool) (n : ℕ) → n ≤ 1 → cond b n 0 ≤ 1
cond_few true n h = h
cond_few false n h = omega arith

pub below_few : (t : Shape) (ws : List ℕ) (j n : ℕ) → below (λ c. cond (eqb (parent t c) j) (min (get_or ws c 0) 1) 0) n ≤ n
below_few t ws j zero = omega arith
below_few t ws j (suc n) = let r = below_few t ws j n in let o = cond_few (eqb (parent t n) j) (min (get_or ws n 0) 1) (omega arith) in omega arith

module _ (t : Shape) (z : Sized t) (ws : List ℕ) where
  pub leafy_counted : Leafy t (managers t) ws → Counted t 0 ws
  leafy_counted w = record { wide = w.wide; leaves = w.leaves; inner = λ j u v. w.others j u; others = λ k u. w.others k (let l = z.leaves_first in omega arith) }

  module _ (c : ℕ) (w : Counted t c ws) (lt : c < root t) where
    abbrev p : ℕ
    p = parent t c

    abbrev ws' : List ℕ
    ws' = set ws (parent t c) (get_or ws (parent t c) 0 + min (get_or ws c 0) 1)

    in_ : p < length ws
    in_ = let e = w.wide in let l = z.parents_below c lt in omega arith

    here : get_or ws' p 0 ≡ get_or ws p 0 + min (get_or ws c 0) 1
    here = get_or-set_same ws p (get_or ws p 0 + min (get_or ws c 0) 1) 0 in_

    others : (k : ℕ) → k ≢ p → get_or ws' k 0 ≡ get_or ws k 0
    others k ne = get_or-set_other ws p k (get_or ws p 0 + min (get_or ws c 0) 1) 0 ne

    -- the nodes so far keep their words
    same : (j : ℕ) → below (λ k. cond (eqb (parent t k) j) (min (get_or ws' k 0) 1) 0) c ≡ below (λ k. cond (eqb (parent t k) j) (min (get_or ws k 0) 1) 0) c
    same j = below_same (λ k. cond (eqb (parent t k) j) (min (get_or ws' k 0) 1) 0) (λ k. cond (eqb (parent t k) j) (min (get_or ws k 0) 1) 0) c
        (λ k l. ap (λ (n : ℕ). cond (eqb (parent t k) j) (min n 1) 0) (others k (let u = z.parents_above c lt in omega arith)))

    inner' : (j : ℕ) → managers t ≤ j → j ≤ root t → get_or ws' j 0 ≡ below (λ k. cond (eqb (parent t k) j) (min (get_or ws' k 0) 1) 0) (suc c)
    inner' = split_at (λ j. managers t ≤ j → j ≤ root t → get_or ws' j 0 ≡ below (λ k. cond (eqb (parent t k) j) (min (get_or ws' k 0) 1) 0) (suc c)) p
        (λ u v. let e = w.inner p u v in let f = same p in let g = here in let o = others c (let up = z.parents_above c lt in omega arith) in
        let b : cond (eqb p p) (min (get_or ws' c 0) 1) 0 ≡ min (get_or ws' c 0) 1 = ap (λ (b : Bool). cond b (min (get_or ws' c 0) 1) 0) (eq-eqb p p refl) in omega arith)
        (λ j ne u v. let e = w.inner j u v in let f = same j in let o = others j ne in
        let b : cond (eqb p j) (min (get_or ws' c 0) 1) 0 ≡ 0 = ap (λ (b : Bool). cond b (min (get_or ws' c 0) 1) 0) (ne_eqb p j (λ e. ne (sym e))) in omega arith)

    pub counted_more : Counted t (c + 1) ws'
    counted_more = let low = z.parents_inner c lt in let high = z.parents_below c lt in record {
      wide = length-set ws p (get_or ws p 0 + min (get_or ws c 0) 1) ∙ w.wide;
      leaves = λ m l. others m (omega arith) ∙ w.leaves m l;
      inner = rw add-one inner';
      others = λ k u. others k (omega arith) ∙ w.others k u;
    }

  module _ (w : Counted t (root t) ws) (s : Somebody t) where
    -- up the tree to the root
    up : (n c : ℕ) → c ≤ root t → root t < c + n → 1 ≤ get_or ws c 0 → 1 ≤ get_or ws (root t) 0
    up zero c l u h = absurd (omega arith)
    up (suc n) c l u h = dite (ℕ_discrete c (root t)) (λ e. subst (λ (k : ℕ). 1 ≤ get_or ws k 0) e h)
        (λ ne. let lt : c < root t = omega arith in let more = z.parents_above c lt in let high = z.parents_below c lt in
        let e = w.inner (parent t c) (z.parents_inner c lt) high in let r = le_below (λ k. cond (eqb (parent t k) (parent t c)) (min (get_or ws k 0) 1) 0) (root t) c lt in
        let b : cond (eqb (parent t c) (parent t c)) (min (get_or ws c 0) 1) 0 ≡ min (get_or ws c 0) 1 = ap (λ (b : Bool). cond b (min (get_or ws c 0) 1) 0) (eq-eqb (parent t c) (parent t c) refl) in
        up n (parent t c) high (omega arith) (omega arith))

    pub counted_opens : Opening t ws
    counted_opens = record {
      sized = z;
      wide = w.wide;
      leaves = w.leaves;
      inner = w.inner;
      others = w.others;
      somebody = let e = w.leaves s.0 s.1 in let l = z.leaves_first in let m = s.1 in let o = s.2 in up (root t + 1) s.0 (omega arith) (omega arith) (omega arith);
    }

pub replicate_last : {A : Type 0} (n : ℕ) (a : A) → replicate n a ++ a ∷ [] ≡ replicate (suc n) a
replicate_last zero a = refl
replicate_last (suc n) a = ap (λ l. a ∷ l) (replicate_last n a)

pub reads : (l : List ℕ) (i x : ℕ) → i < length l → x ≡ get_or l i x → x ≡ get_or l i 0
reads [] i x h e = absurd (omega arith)
reads (y ∷ ys) zero x h e = e
reads (y ∷ ys) (suc i) x h e = reads ys i x (omega arith) e
