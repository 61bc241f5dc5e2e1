-- One more name at the end.
use Rattle.std.proofs.Common.{◌≡◌, ℕ, suc, ◌+◌, List, [], ◌∷◌, ◌++◌, length, Option, Some, None, Bool, true, false, cond, bytes_eq, refl, sym, ap, ◌∙◌, arith, true≢false}
use Rattle.std.proofs.lemmas.Slice.Eq.{bytes_eq-Decides}
use Rattle.scenario.specs.Names.{place_from, place_in}

pub bytes_eq-same : (xs ys : List ℕ) → bytes_eq xs ys ≡ true → xs ≡ ys
bytes_eq-same xs ys h = (bytes_eq-Decides xs ys).0 h

pub bytes_eq-itself : (xs ys : List ℕ) → xs ≡ ys → bytes_eq xs ys ≡ true
bytes_eq-itself xs ys h = (bytes_eq-Decides xs ys).1 h

differ : (m n q : List ℕ) → bytes_eq m q ≡ true → bytes_eq m n ≡ false → (b : Bool) → bytes_eq n q ≡ b → b ≡ false
differ m n q mq mn false e = refl
differ m n q mq mn true e = absurd (true≢false (sym (bytes_eq-itself m n (bytes_eq-same m q mq ∙ sym (bytes_eq-same n q e))) ∙ mn))

step : (mq nq mn : Bool) (i j : ℕ) (rest more : Option ℕ) → (mq ≡ true → mn ≡ false → nq ≡ false) → mn ≡ false → more ≡ cond nq (Some j) rest
    → cond mq (Some i) more ≡ cond nq (Some j) (cond mq (Some i) rest)
step false nq mn i j rest more apart new e = e
step true false mn i j rest more apart new e = refl
step true true mn i j rest more apart new e = absurd (true≢false (apart refl new))

later : (b : Bool) (i : ℕ) (rest : Option ℕ) → cond b (Some i) rest ≡ None → (b ≡ false) × (rest ≡ None)
later false i rest h = (refl, h)
later true i rest h = absurd (cc)

pub place_from-append : (i : ℕ) (ns : List (List ℕ)) (n q : List ℕ) → place_from i ns n ≡ None
    → place_from i (ns ++ n ∷ []) q ≡ cond (bytes_eq n q) (Some (i + length ns)) (place_from i ns q)
place_from-append i [] n q h = ap (λ j. cond (bytes_eq n q) (Some j) None) (omega arith)
place_from-append i (m ∷ ns) n q h =
    let p = later (bytes_eq m n) i (place_from (i + 1) ns n) h in
    let j : i + 1 + length ns ≡ i + suc (length ns) = omega arith in
    step (bytes_eq m q) (bytes_eq n q) (bytes_eq m n) i (i + suc (length ns)) (place_from (i + 1) ns q) _ (λ a b. differ m n q a b (bytes_eq n q) refl) p.0
    (place_from-append (i + 1) ns n q p.1 ∙ ap (λ k. cond (bytes_eq n q) (Some k) (place_from (i + 1) ns q)) j)

pub place_in-append : (ns : List (List ℕ)) (n q : List ℕ) (place : ℕ) → place_in ns n ≡ None → place ≡ length ns + 1
    → place_in (ns ++ n ∷ []) q ≡ cond (bytes_eq n q) (Some place) (place_in ns q)
place_in-append ns n q place h e =
    let j : 1 + length ns ≡ place = omega arith in
    place_from-append 1 ns n q h ∙ ap (λ k. cond (bytes_eq n q) (Some k) (place_in ns q)) j
