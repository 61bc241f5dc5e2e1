-- Looks at all pairs of managers, and hands joined from the last on.
use Rattle.std.proofs.Common.{◌≡◌, Some, ℕ, ◌+◌, ◌<◌, ◌≤◌, List, [], ◌∷◌, ◌++◌, length, sym, refl, ap, ◌∙◌, subst, arith}
use Rattle.std.proofs.lemmas.List.Elements.{All-pop}
use mathlib.Core.Logic.{dite}
use native.Mathlib.Decide.{ℕ_discrete}
use Rattle.quiet_core.specs.Rows.{at_pair, put_pair}
use Rattle.quiet_core.specs.Account.{Shape, managers, scheduled, Account, knows, posts}
use Rattle.quiet_core.specs.Step.{united}
use Rattle.quiet_core.proofs.Untouched.{split_at}
use Rattle.quiet_core.proofs.Sums.{pair_here, pair_beside, pair_apart}
use Rattle.quiescence.specs.Rule.{RoundId, Holding}
use Rattle.quiescence.specs.Learnt.{Learnt}
use Rattle.quiescence.specs.Joint.{pooled, joint, AllOf, LookedFrom, LookedAll}

-- a number that is put where it isn't less leaves no number less
grows : (l : List (List ℕ)) (m n x : ℕ) → at_pair l m n ≤ x → (j k : ℕ) → at_pair l j k ≤ at_pair (put_pair l m n x) j k
grows l m n x h = split_at (λ j. (k : ℕ) → at_pair l j k ≤ at_pair (put_pair l m n x) j k) m
    (split_at (λ k. at_pair l m k ≤ at_pair (put_pair l m n x) m k) n (let e = pair_here l m n x in omega arith) (λ k ne. let e = pair_beside l m n k x ne in omega arith))
    (λ j ne k. let e = pair_apart l m n j k x ne in omega arith)

-- the account of a hand that has read this number for a pair
abbrev told_of : Account → (m n x : ℕ) → Account
told_of a m n x = record a { known = put_pair a.known m n x }

module _ (g h h' : Holding) (m n x : ℕ) (w : LookedFrom g h m n) (of : h'.round ≡ h.round) (is : h'.account ≡ told_of h.account m n x) (more : (knows h.account m n ≤ x) × (posts h.account m n ≤ x)) where
  known : h'.account.known ≡ put_pair h.account.known m n x
  known = ap (λ (a : Account). a.known) is

  grown : (j k : ℕ) → knows h.account j k ≤ knows h'.account j k
  grown j k = let r = grows h.account.known m n x more.0 j k in let e : knows h'.account j k ≡ at_pair (put_pair h.account.known m n x) j k = ap (λ l. at_pair l j k) known in omega arith

  here : posts g.account m n ≤ knows h'.account m n
  here =
      let e : knows h'.account m n ≡ x = ap (λ l. at_pair l m n) known ∙ pair_here h.account.known m n x in
      let f : posts h.account m n ≡ posts g.account m n = ap (λ (r : Holding). posts r.account m n) w.knows_more.same in
      let q = more.1 in
      omega arith

  pub looked_more : LookedFrom g h' m (n + 1)
  looked_more = record {
    knows_more = record {
      same = let a : h'.account ≡ record g.account { known = h'.account.known } =
          is ∙ ap (λ (r : Holding). record r.account { known = put_pair h.account.known m n x }) w.knows_more.same ∙ ap (λ (l : List (List ℕ)). record g.account { known = l }) (sym known) in
          let o : h'.round ≡ g.round = of ∙ ap (λ (r : Holding). r.round) w.knows_more.same in λ i. record { round = o i; account = a i };
      more = λ j k. (let e = w.knows_more.more j k in let f = grown j k in omega arith);
    };
    row = λ k l. dite (ℕ_discrete k n) (λ e. subst (λ (z : ℕ). posts g.account m z ≤ knows h'.account m z) (sym e) here) (λ ne. let e = w.row k (omega arith) in let f = grown m k in omega arith);
  }

-- a hand that has looked at nothing yet, and one that needs not: nobody was scheduled at m
pub looked_none : (g : Holding) (m : ℕ) → LookedFrom g g m 0
looked_none g m = record { knows_more = record { same = refl; more = λ j k. omega arith }; row = λ k l. absurd (omega arith) }

pub looked_silent : (t : Shape) (g : Holding) (m : ℕ) → Learnt t g.account → m < managers t → scheduled t m ≡ 0 → LookedFrom g g m (managers t)
looked_silent t g m w lm z = record { knows_more = record { same = refl; more = λ j k. omega arith }; row = λ k l. (let e = (w.silent m k lm l z).0 in omega arith) }

-- one manager more
pub looked_next : (t : Shape) (g h h' : Holding) (m : ℕ) → LookedAll t g h m → LookedFrom h h' m (managers t) → LookedAll t g h' (m + 1)
looked_next t g h h' m w v = record {
  knows_more = record {
    same = v.knows_more.same ∙ ap (λ (r : Holding). record r { account = record r.account { known = h'.account.known } }) w.knows_more.same;
    more = λ j k. (let e = w.knows_more.more j k in let f = v.knows_more.more j k in omega arith);
  };
  rows = λ j k u l. dite (ℕ_discrete j m)
      (λ e. let p : posts h.account m k ≡ posts g.account m k = ap (λ (r : Holding). posts r.account m k) w.knows_more.same in
      let r = v.row k l in subst (λ (z : ℕ). posts g.account z k ≤ knows h'.account z k) (sym e) (omega arith))
      (λ ne. let e = w.rows j k (omega arith) l in let f = v.knows_more.more j k in omega arith);
}

-- the last hand is taken in first
pub pooled_last : (a : Account) (hs : List Holding) (h : Holding) → pooled a (hs ++ h ∷ []) ≡ pooled (united a h.account) hs
pooled_last a [] h = refl
pooled_last a (g ∷ hs) h = ap (λ (b : Account). united b g.account) (pooled_last a hs h)

pub of_last : (r : RoundId) (hs : List Holding) (h : Holding) → AllOf r (hs ++ h ∷ []) → AllOf r hs × (h.round ≡ r)
of_last r hs h e = All-pop (λ g. g.round ≡ r) (hs ++ h ∷ []) hs (Some h) refl e

pub joint_last : (hs : List Holding) (a : Holding) → joint (hs ++ a ∷ []) ≡ pooled a.account hs
joint_last [] a = refl
joint_last (h ∷ []) a = refl
joint_last (h ∷ g ∷ hs) a = ap (λ (b : Account). united b h.account) (joint_last (g ∷ hs) a)

pub empty : {A : Type 0} (l : List A) → length l ≡ 0 → l ≡ []
empty [] e = refl
empty (x ∷ xs) e = absurd (omega arith)
