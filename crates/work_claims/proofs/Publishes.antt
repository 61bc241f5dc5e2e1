-- Letters that are announced and posted.
use Rattle.std.proofs.Common.{◌≡◌, ℕ, zero, suc, ◌+◌, ◌-◌, ◌<◌, ◌≤◌, ⊎_elim, refl, ap, ◌∙◌, subst, arith}
use mathlib.Core.Logic.{dite}
use native.Mathlib.Decide.{ℕ_discrete}
use Rattle.quiet_core.specs.Rows.{below, put_pair}
use Rattle.quiet_core.specs.Account.{Account, Mark, told, mark, posts, opened, owing}
use Rattle.quiet_core.specs.Step.{put_mark}
use Rattle.quiet_core.proofs.Sums.{pair_here, pair_beside, pair_apart, le_below}
use Rattle.quiet_core.proofs.Untouched.{mark_here, mark_beside, mark_apart}
use Rattle.quiescence.specs.Answers.{IsPost}
use Rattle.work_claims.specs.Acting.{Others, Grew, Publishing}

-- a mark that is put changes no other
pub put_others : (a : Account) (m i : ℕ) (k : Mark) → Others m i a (put_mark a m i k)
put_others a m i k n j apart = dite (ℕ_discrete n m)
    (λ e. rw e (mark_beside a m i j k (⊎_elim (λ ne. absurd (ne e)) (λ ne. ne) apart)))
    (λ ne. mark_apart a m n i j k ne)

pub raised : (a : Account) (m i total : ℕ) (f : ℕ → ℕ) → Publishing m i total f 0 a (put_mark a m i (told total))
raised a m i total f =
    let is = mark_here a m i (told total) in
    record {
      keeps = record { weight = refl; collecting = refl; acked = refl; collected = refl };
      exhausted = refl;
      duties = refl;
      others = put_others a m i (told total);
      is_open = ap opened is;
      owed = let e = ap owing is in omega arith;
      here = λ j l. absurd (omega arith);
      later = λ j l. refl;
      apart = λ k j ne. refl;
    }

skipped : (a b : Account) (m i total : ℕ) (f : ℕ → ℕ) (n : ℕ) → f n ≡ 0 → Publishing m i total f n a b → Publishing m i total f (suc n) a b
skipped a b m i total f n z p = record {
  keeps = p.keeps;
  exhausted = p.exhausted;
  duties = p.duties;
  others = p.others;
  is_open = p.is_open;
  owed = let o = p.owed in omega arith;
  here = λ j l. dite (ℕ_discrete j n)
      (λ e. let q = p.later j (omega arith) in let is : f j ≡ f n = ap f e in omega arith)
      (λ ne. p.here j (omega arith));
  later = λ j l. p.later j (omega arith);
  apart = p.apart;
}

posted_on : (a b c : Account) (m i total : ℕ) (f : ℕ → ℕ) (n : ℕ) → f n ≤ owing (mark b m i) → Publishing m i total f n a b
    → IsPost m i n (f n) b c → Publishing m i total f (suc n) a c
posted_on a b c m i total f n small p post =
    let k = told (owing (mark b m i) - f n) in
    let d = record (put_mark b m i k) {
      posted = put_pair b.posted m n (posts b m n + f n);
      known = put_pair b.known m n (post.0 + f n);
    } in
    let is = mark_here b m i k in
    let next : Publishing m i total f (suc n) a d = record {
      keeps = record { weight = p.keeps.weight; collecting = p.keeps.collecting; acked = p.keeps.acked; collected = p.keeps.collected };
      exhausted = p.exhausted;
      duties = p.duties;
      others = λ x j apart. put_others b m i k x j apart ∙ p.others x j apart;
      is_open = ap opened is;
      owed = let e = ap owing is in let o = p.owed in omega arith;
      here = λ j l. dite (ℕ_discrete j n)
          (λ e. rw e (pair_here b.posted m n (posts b m n + f n) ∙ ap (λ (x : ℕ). x + f n) (p.later n (omega arith))))
          (λ ne. pair_beside b.posted m n j (posts b m n + f n) ne ∙ p.here j (omega arith));
      later = λ j l. pair_beside b.posted m n j (posts b m n + f n) (λ e. omega arith) ∙ p.later j (omega arith);
      apart = λ x j ne. pair_apart b.posted m n x j (posts b m n + f n) ne ∙ p.apart x j ne;
    } in
    rw post.2 next

-- at the end
pub grew : (a b : Account) (m i total : ℕ) (f : ℕ → ℕ) (managers n : ℕ) → n ≡ managers → Publishing m i total f n a b → Grew managers m f a b
grew a b m i total f managers n e p = record { here = λ j lt. p.here j (omega arith); apart = p.apart }

-- where there is no letter
pub grew_none : (a : Account) (m : ℕ) (f : ℕ → ℕ) (managers : ℕ) → below f managers ≡ 0 → Grew managers m f a a
grew_none a m f managers z = record {
  here = λ n lt. let e = le_below f managers n lt in omega arith;
  apart = λ k n ne. refl;
}

below_up : (f : ℕ → ℕ) (n k : ℕ) → n < k → below f n + f n ≤ below f k
below_up f n zero l = absurd (omega arith)
below_up f n (suc k) l = dite (ℕ_discrete n k)
    (λ e. let a : below f n ≡ below f k = ap (below f) e in let b : f n ≡ f k = ap f e in omega arith)
    (λ ne. let r = below_up f n k (omega arith) in omega arith)

-- what is posted next is still owed
pub next_owed : (a b : Account) (m i total : ℕ) (f : ℕ → ℕ) (managers n : ℕ) → n < managers → below f managers ≡ total
    → Publishing m i total f n a b → f n ≤ owing (mark b m i)
next_owed a b m i total f managers n lt all p = let u = below_up f n managers lt in let o = p.owed in omega arith

pub posted_or_not : (a b c : Account) (m i total : ℕ) (f : ℕ → ℕ) (n k : ℕ) → k ≡ f n → f n ≤ owing (mark b m i) → Publishing m i total f n a b
    → (1 ≤ k → IsPost m i n k b c) → (k ≡ 0 → c ≡ b) → Publishing m i total f (n + 1) a c
posted_or_not a b c m i total f n k is small p some none =
    let next : n + 1 ≡ suc n = omega arith in
    rw next (dite (ℕ_discrete k 0)
    (λ z. rw (none z) (skipped a b m i total f n (omega arith) p))
    (λ nz. posted_on a b c m i total f n small p (subst (λ (x : ℕ). IsPost m i n x b c) is (some (omega arith)))))

pub none_owed : (a b : Account) (m i total : ℕ) (f : ℕ → ℕ) (managers n : ℕ) → n ≡ managers → below f managers ≡ total
    → Publishing m i total f n a b → owing (mark b m i) ≡ 0
none_owed a b m i total f managers n e all p =
    let same : below f n ≡ below f managers = ap (below f) e in let o = p.owed in omega arith
