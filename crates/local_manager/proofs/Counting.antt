-- Lists in which each has as many letters have as many letters to whomever.
use Rattle.std.proofs.Common.{◌≡◌, ℕ, suc, zero, ◌+◌, ◌≤◌, Bool, true, false, not, cond, nat_eq, List, [], ◌∷◌, length, refl, sym, ap, arith, ◌∙◌}
use Rattle.std.proofs.lemmas.Bool.Decides.{nat_tests}
use Rattle.std.proofs.lemmas.List.Sums.{length-filter}
use Rattle.std.specs.List.{count_by, filter}
use Rattle.sim_base.specs.declared.ids.ActorId.{ActorId}
use Rattle.actor_trait.specs.InboxOrder.{is_to}
use Rattle.actor_trait.specs.declared.letter.Letter.{Letter}
use Rattle.sim_model.proofs.Sameness.{id_same}

abbrev others : ActorId → List Letter → List Letter
others to ls = filter (λ l. not (is_to to l)) ls

abbrev how_many : (ActorId → Bool) → List Letter → ℕ
how_many q ls = length (filter (λ l. q l.to) ls)

-- those to one, and the others
parted : (q : ActorId → Bool) (to : ActorId) (ls : List Letter) → how_many q ls ≡ cond (q to) (length (filter (is_to to) ls)) 0 + how_many q (others to ls)
parted q to [] = none (q to)
  where
    none : (b : Bool) → length {A = Letter} [] ≡ cond b (length {A = Letter} []) 0 + length {A = Letter} []
    none true = refl
    none false = refl
parted q to (l ∷ ls) = told (is_to to l) (q l.to) (q to) refl refl refl (parted q to ls)
  where
    one : is_to to l ≡ true → q l.to ≡ q to
    one e = ap q (id_same l.to to (grind (arith, nat_tests, e)))

    told : (b c d : Bool) → is_to to l ≡ b → q l.to ≡ c → q to ≡ d → how_many q ls ≡ cond d (length (filter (is_to to) ls)) 0 + how_many q (others to ls)
        → length (cond c (l ∷ filter (λ l. q l.to) ls) (filter (λ l. q l.to) ls))
        ≡ cond d (length (cond b (l ∷ filter (is_to to) ls) (filter (is_to to) ls))) 0 + how_many q (cond (not b) (l ∷ others to ls) (others to ls))
    told true true true e f g h = omega (arith, h)
    told true true false e f g h = let same : q l.to ≡ q to = one e in absurd (cc)
    told true false true e f g h = let same : q l.to ≡ q to = one e in absurd (cc)
    told true false false e f g h = omega (arith, h)
    told false true d e f g h = rw f (omega (arith, h))
    told false false d e f g h = rw f (omega (arith, h))

shorter : (p : Letter → Bool) (ls : List Letter) → length (filter p ls) ≤ length ls
shorter p [] = omega arith
shorter p (l ∷ ls) = told (p l) (shorter p ls)
  where
    told : (b : Bool) → length (filter p ls) ≤ length ls → length (cond b (l ∷ filter p ls) (filter p ls)) ≤ suc (length ls)
    told true h = omega (arith, h)
    told false h = omega (arith, h)

-- of the others one has none, and each other as many as before
left_to : (to other : ActorId) (ls : List Letter) → length (filter (is_to other) (others to ls)) ≡ cond (nat_eq other.0 to.0) 0
    (length (filter (is_to other) ls))
left_to to other [] = told (nat_eq other.0 to.0)
  where
    told : (b : Bool) → length {A = Letter} [] ≡ cond b 0 (length {A = Letter} [])
    told true = refl
    told false = refl
left_to to other (l ∷ ls) = told (is_to to l) (is_to other l) (nat_eq other.0 to.0) refl refl refl (left_to to other ls)
  where
    told : (b c d : Bool) → is_to to l ≡ b → is_to other l ≡ c → nat_eq other.0 to.0 ≡ d
        → length (filter (is_to other) (others to ls)) ≡ cond d 0 (length (filter (is_to other) ls))
        → length (filter (is_to other) (cond (not b) (l ∷ others to ls) (others to ls))) ≡ cond d 0
        (length (cond c (l ∷ filter (is_to other) ls) (filter (is_to other) ls)))
    told true true true e f g h = h
    told true true false e f g h = absurd (grind (arith, nat_tests, e, f, g))
    told true false d e f g h = h
    told false true true e f g h = absurd (grind (arith, nat_tests, e, f, g))
    told false true false e f g h = rw f (ap suc h)
    told false false d e f g h = rw f h

none_left : (q : ActorId → Bool) (ls : List Letter) → ((to : ActorId) → 0 ≡ length (filter (is_to to) ls)) → 0 ≡ how_many q ls
none_left q [] h = refl
none_left q (l ∷ ls) h =
    let mine : is_to l.to l ≡ true = grind (arith, nat_tests) in
    let some : 0 ≡ suc (length (filter (is_to l.to) ls)) = rw mine at (h l.to) in
    absurd (omega (arith, some))

counts_within : (n : ℕ) (q : ActorId → Bool) (xs ys : List Letter) → length xs ≤ n
    → ((to : ActorId) → length (filter (is_to to) xs) ≡ length (filter (is_to to) ys))
    → how_many q xs ≡ how_many q ys
counts_within n q [] ys le h = none_left q ys h
counts_within zero q (x ∷ xs) ys le h = absurd (omega (arith, le))
counts_within (suc n) q (x ∷ xs) ys le h =
    let mine : is_to x.to x ≡ true = grind (arith, nat_tests) in
    let rest : others x.to (x ∷ xs) ≡ others x.to xs = rw mine refl in
    let less : length (others x.to (x ∷ xs)) ≤ n = omega (arith, le, shorter (λ l. not (is_to x.to l)) xs, ap (λ (l : List Letter). length l) rest) in
    let same : how_many q (others x.to (x ∷ xs)) ≡ how_many q (others x.to ys) =
    counts_within n q (others x.to (x ∷ xs)) (others x.to ys) less
    (λ to. left_to x.to to (x ∷ xs) ∙ ap (λ (k : ℕ). cond (nat_eq to.0 x.to.0) 0 k) (h to) ∙ sym (left_to x.to to ys)) in
    parted q x.to (x ∷ xs)
    ∙ ap (λ (k : ℕ). cond (q x.to) k 0 + how_many q (others x.to (x ∷ xs))) (h x.to)
    ∙ ap (λ (k : ℕ). cond (q x.to) (length (filter (is_to x.to) ys)) 0 + k) same
    ∙ sym (parted q x.to ys)

pub same_counts : (q : ActorId → Bool) (xs ys : List Letter) → ((to : ActorId) → length (filter (is_to to) xs) ≡ length (filter (is_to to) ys))
    → count_by (λ l. q l.to) xs ≡ count_by (λ l. q l.to) ys
same_counts q xs ys h = sym (length-filter (λ (l : Letter). q l.to) xs) ∙ counts_within (length xs) q xs ys (omega arith) h
    ∙ length-filter (λ (l : Letter). q l.to) ys
