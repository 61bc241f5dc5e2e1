-- States put in their places from the last report on: the same, since no two are of one actor.
use Rattle.std.proofs.Common.{◌≡◌, ◌≢◌, ◌∙◌, ℕ, zero, suc, ◌-◌, ◌<◌, Bool, true, false, cond, nat_eq, List, [], ◌∷◌, ◌++◌, slice_set}
use Rattle.std.proofs.Common.{Option, Some, None, arith, refl, ap, sym}
use Rattle.std.proofs.lemmas.Bool.Decides.{nat_tests}
use Rattle.std.proofs.lemmas.List.Elements.{All-nil, All-cons, All-head, All-tail}
use Rattle.std.proofs.lemmas.List.Kept.{AllPairs-cons}
use Rattle.std.specs.List.{All, AllPairs, fold}
use Rattle.sim_model.specs.Moment.{put_state}
use Rattle.sim_model.specs.declared.report.Report.{Report}
use Rattle.sim_model.proofs.Ascending.{pairs_head, pairs_nil, pairs_tail}

-- by number
abbrev pub Before : {A : Type 0} → Report A → Report A → Type 0
Before r q = r.id.0 < q.id.0

set_apart : {X : Type 0} (xs : List X) (i j : ℕ) (v w : X) → i ≢ j → slice_set (slice_set xs i v) j w ≡ slice_set (slice_set xs j w) i v
set_apart [] i j v w ne = refl
set_apart (x ∷ xs) zero zero v w ne = absurd (ne refl)
set_apart (x ∷ xs) zero (suc j) v w ne = refl
set_apart (x ∷ xs) (suc i) zero v w ne = refl
set_apart {X} (x ∷ xs) (suc i) (suc j) v w ne = ap (λ (l : List X). x ∷ l) (set_apart xs i j v w (λ e. ne (ap (λ n. suc n) e)))

put_apart : {A : Type 0} (states : List (Option A)) (r q : Report A) → Before r q
    → put_state (put_state states r) q ≡ put_state (put_state states q) r
put_apart {A} states r q less = told (nat_eq r.id.0 0) (nat_eq q.id.0 0) refl refl where
  next : Report A → Option A
  next p = cond p.outcome.retire None (Some p.outcome.state)

  told : (b c : Bool) → nat_eq r.id.0 0 ≡ b → nat_eq q.id.0 0 ≡ c
      → cond c (cond b states (slice_set states (r.id.0 - 1) (next r))) (slice_set (cond b states (slice_set states (r.id.0 - 1) (next r))) (q.id.0 - 1) (next q))
      ≡ cond b (cond c states (slice_set states (q.id.0 - 1) (next q))) (slice_set (cond c states (slice_set states (q.id.0 - 1) (next q))) (r.id.0 - 1) (next r))
  told true c e f = refl
  told false true e f = refl
  told false false e f = set_apart states (r.id.0 - 1) (q.id.0 - 1) (next r) (next q) (λ same. grind (arith, nat_tests, e, f, less, same))

put_last : {A : Type 0} (states : List (Option A)) (rs : List (Report A)) (q : Report A) → All (λ r. Before r q) rs
    → fold put_state (put_state states q) rs ≡ fold put_state states (rs ++ q ∷ [])
put_last states [] q h = refl
put_last {A} states (r ∷ rs) q h =
    ap (λ (s : List (Option A)). fold put_state s rs) (sym (put_apart states r q (All-head (λ r. Before r q) r rs h)))
    ∙ put_last (put_state states r) rs q (All-tail (λ r. Before r q) r rs h)

front : {A : Type 0} (rs : List (Report A)) (q : Report A) → AllPairs Before (rs ++ q ∷ []) → AllPairs Before rs × All (λ r. Before r q) rs
front [] q h = (pairs_nil Before, All-nil (λ r. Before r q))
front {A} (r ∷ rs) q h =
    let rest = front rs q (pairs_tail Before r (rs ++ q ∷ []) h) in
    let heads = pairs_head Before r (rs ++ q ∷ []) h in
    (AllPairs-cons Before r rs (before rs heads) rest.0, All-cons (λ p. Before p q) r rs (last rs heads) rest.1)
  where
    before : (ps : List (Report A)) → All (Before r) (ps ++ q ∷ []) → All (Before r) ps
    before [] a = All-nil (Before r)
    before (p ∷ ps) a = All-cons (Before r) p ps (All-head (Before r) p (ps ++ q ∷ []) a) (before ps (All-tail (Before r) p (ps ++ q ∷ []) a))

    last : (ps : List (Report A)) → All (Before r) (ps ++ q ∷ []) → Before r q
    last [] a = All-head (Before r) q [] a
    last (p ∷ ps) a = last ps (All-tail (Before r) p (ps ++ q ∷ []) a)

-- one is put, and those before it are left
pub record PutsLast {A : Type 0} (states : List (Option A)) (rs left : List (Report A)) (q : Report A) : Type 0 where
  pub ascend : AllPairs Before left
  pub same : fold put_state (put_state states q) left ≡ fold put_state states rs

pub puts_last : {A : Type 0} (states : List (Option A)) (rs left : List (Report A)) (q : Report A) → rs ≡ left ++ q ∷ [] → AllPairs Before rs
    → PutsLast states rs left q
puts_last {A} states rs left q e h =
    let parts = front left q (rw e at h) in
    record { ascend = parts.0; same = put_last states left q parts.1 ∙ ap (λ (l : List (Report A)). fold put_state states l) (sym e) }
