-- Lists kept in parts.
use Rattle.std.proofs.Common.{◌≡◌, ℕ, suc, zero, ◌+◌, ◌<◌, ◌≤◌, Bool, true, false, ◌||◌, cond, nat_eq, List, [], ◌∷◌, Some, slice_get, length, refl}
use Rattle.std.proofs.Common.{sym, ap, arith, ◌∙◌, subst}
use Rattle.std.proofs.lemmas.Bool.Decides.{nat_tests}
use Rattle.std.specs.List.{filter}
use Rattle.local_manager.specs.Merged.{insert, insert_all, union, Precedes, IsRising, IsOrder, IsTotal, at_home, IsSplit}

-- what is before all goes to the front
pub insert_front : {X : Type 0} (lt : X → X → Bool) (x : X) (xs : List X) → Precedes lt x xs → insert lt x xs ≡ x ∷ xs
insert_front lt x [] h = refl
insert_front lt x (y ∷ ys) h = rw h.0

-- what is behind the first goes behind it
pub insert_behind : {X : Type 0} (lt : X → X → Bool) (o : IsOrder lt) (x y : X) (ys : List X) → lt y x ≡ true → insert lt x (y ∷ ys) ≡ y ∷ insert lt x ys
insert_behind lt o x y ys h = rw (o.one_way y x h, h)

precedes_chain : {X : Type 0} (lt : X → X → Bool) (o : IsOrder lt) (x y : X) (ys : List X) → lt x y ≡ true → Precedes lt y ys → Precedes lt x ys
precedes_chain lt o x y [] h p = tt
precedes_chain lt o x y (z ∷ zs) h p = (o.chains x y z h p.0, precedes_chain lt o x y zs h p.1)

precedes_insert : {X : Type 0} (lt : X → X → Bool) (z x : X) (xs : List X) → lt z x ≡ true → Precedes lt z xs → Precedes lt z (insert lt x xs)
precedes_insert lt z x [] h p = (h, tt)
precedes_insert {X} lt z x (y ∷ ys) h p = deeper (precedes_insert lt z x ys h p.1) (lt x y) (lt y x)
  where
    deeper : Precedes lt z (insert lt x ys) → (b c : Bool) → Precedes lt z (cond b (x ∷ y ∷ ys) (cond c (y ∷ insert lt x ys) (y ∷ ys)))
    deeper g true c = (h, p)
    deeper g false true = (p.0, g)
    deeper g false false = p

pub rises_insert : {X : Type 0} (lt : X → X → Bool) (o : IsOrder lt) (x : X) (xs : List X) → IsRising lt xs → IsRising lt (insert lt x xs)
rises_insert lt o x [] r = (tt, tt)
rises_insert {X} lt o x (y ∷ ys) r = deeper (rises_insert lt o x ys r.1) (lt x y) (lt y x) refl refl
  where
    deeper : IsRising lt (insert lt x ys) → (b c : Bool) → lt x y ≡ b → lt y x ≡ c → IsRising lt (cond b (x ∷ y ∷ ys) (cond c (y ∷ insert lt x ys) (y ∷ ys)))
    deeper g true c hb hc = ((hb, precedes_chain lt o x y ys hb r.0), r)
    deeper g false true hb hc = (precedes_insert lt y x ys hc r.0, g)
    deeper g false false hb hc = r

pub rises_insert_all : {X : Type 0} (lt : X → X → Bool) (o : IsOrder lt) (a xs : List X) → IsRising lt a → IsRising lt (insert_all lt a xs)
rises_insert_all lt o a [] r = r
rises_insert_all lt o a (x ∷ xs) r = rises_insert_all lt o (insert lt x a) xs (rises_insert lt o x a r)

pub rises_union : {X : Type 0} (lt : X → X → Bool) (o : IsOrder lt) (ps : List (List X)) → IsRising lt (union lt ps)
unfolding union
rises_union lt o [] = tt
rises_union lt o (p ∷ ps) = rises_insert_all lt o (union lt ps) p (rises_union lt o ps)

precedes_filter : {X : Type 0} (lt : X → X → Bool) (p : X → Bool) (x : X) (xs : List X) → Precedes lt x xs → Precedes lt x (filter p xs)
precedes_filter lt p x [] h = tt
precedes_filter {X} lt p x (y ∷ ys) h = deeper (precedes_filter lt p x ys h.1) (p y)
  where
    deeper : Precedes lt x (filter p ys) → (b : Bool) → Precedes lt x (cond b (y ∷ filter p ys) (filter p ys))
    deeper g true = (h.0, g)
    deeper g false = g

pub rises_filter : {X : Type 0} (lt : X → X → Bool) (p : X → Bool) (xs : List X) → IsRising lt xs → IsRising lt (filter p xs)
rises_filter lt p [] r = tt
rises_filter {X} lt p (y ∷ ys) r = deeper (rises_filter lt p ys r.1) (p y)
  where
    deeper : IsRising lt (filter p ys) → (b : Bool) → IsRising lt (cond b (y ∷ filter p ys) (filter p ys))
    deeper g true = (precedes_filter lt p y ys r.0, g)
    deeper g false = g

-- a filter of a list with one more
pub filter_insert : {X : Type 0} (lt : X → X → Bool) (o : IsOrder lt) (t : IsTotal lt) (p : X → Bool) (x : X) (xs : List X) → IsRising lt xs
    → filter p (insert lt x xs) ≡ cond (p x) (insert lt x (filter p xs)) (filter p xs)
filter_insert lt o t p x [] r = refl
filter_insert {X} lt o t p x (y ∷ ys) r = deeper (filter_insert lt o t p x ys r.1) (lt x y) (lt y x) (p x) (p y) refl refl refl refl
  where
    deeper : filter p (insert lt x ys) ≡ cond (p x) (insert lt x (filter p ys)) (filter p ys)
        → (b c d e : Bool) → lt x y ≡ b → lt y x ≡ c → p x ≡ d → p y ≡ e
        → filter p (cond b (x ∷ y ∷ ys) (cond c (y ∷ insert lt x ys) (y ∷ ys))) ≡ cond d (insert lt x (cond e (y ∷ filter p ys) (filter p ys)))
        (cond e (y ∷ filter p ys) (filter p ys))
    deeper g true c true true hb hc hd he = rw (hd, he, hb)
    deeper g true c true false hb hc hd he = rw (
      hd,
      he,
      insert_front lt x (filter p ys)
          (precedes_chain lt o x y (filter p ys) hb (precedes_filter lt p y ys r.0)),
    )
    deeper g true c false e hb hc hd he = rw (hd, he)
    deeper g false true true true hb hc hd he = rw (he, insert_behind lt o x y (filter p ys) hc, g, hd)
    deeper g false true true false hb hc hd he = rw (he, g, hd)
    deeper g false true false true hb hc hd he = rw (he, g, hd)
    deeper g false true false false hb hc hd he = rw (he, g, hd)
    deeper g false false true true hb hc hd he = rw (he, hb, hc)
    deeper g false false true false hb hc hd he = let same : p x ≡ p y = ap p (t x y hb hc) in cc
    deeper g false false false true hb hc hd he = let same : p x ≡ p y = ap p (t x y hb hc) in cc
    deeper g false false false false hb hc hd he = rw he

behind_all : {X : Type 0} (lt : X → X → Bool) (o : IsOrder lt) (x : X) (a ps : List X) → Precedes lt x ps → insert_all lt (x ∷ a) ps ≡ x ∷ insert_all lt a ps
behind_all lt o x a [] h = refl
behind_all lt o x a (y ∷ ys) h = rw (insert_behind lt o y x a h.0) (behind_all lt o x (insert lt y a) ys h.1)

-- two filters of one list, joined
pub filters_join : {X : Type 0} (lt : X → X → Bool) (o : IsOrder lt) (p q : X → Bool) (xs : List X) → IsRising lt xs
    → insert_all lt (filter q xs) (filter p xs) ≡ filter (λ x. p x || q x) xs
filters_join lt o p q [] r = refl
filters_join {X} lt o p q (x ∷ xs) r = deeper (filters_join lt o p q xs r.1) (p x) (q x) (lt x x) refl
  where
    deeper : insert_all lt (filter q xs) (filter p xs) ≡ filter (λ y. p y || q y) xs → (b c d : Bool) → lt x x ≡ d
        → insert_all lt (cond c (x ∷ filter q xs) (filter q xs)) (cond b (x ∷ filter p xs) (filter p xs)) ≡ cond (b || c)
        (x ∷ filter (λ y. p y || q y) xs) (filter (λ y. p y || q y) xs)
    deeper g true true true hd = let no_way : lt x x ≡ false = o.one_way x x hd in cc
    deeper g true true false hd = ap (λ (d : Bool). insert_all lt
        (cond d (x ∷ x ∷ filter q xs) (cond d (x ∷ insert lt x (filter q xs)) (x ∷ filter q xs))) (filter p xs)) hd
        ∙ rw (behind_all lt o x (filter q xs) (filter p xs) (precedes_filter lt p x xs r.0), g)
    deeper g true false d hd = ap (λ (a : List X). insert_all lt a (filter p xs)) (insert_front lt x (filter q xs) (precedes_filter lt q x xs r.0))
        ∙ behind_all lt o x (filter q xs) (filter p xs) (precedes_filter lt p x xs r.0) ∙ ap (λ (a : List X). x ∷ a) g
    deeper g false true d hd = rw (behind_all lt o x (filter q xs) (filter p xs) (precedes_filter lt p x xs r.0), g)
    deeper g false false d hd = g

-- the home is one of n from k on
abbrev among : {X : Type 0} → (X → ℕ) → ℕ → ℕ → X → Bool
among home k zero x = false
among home k (suc n) x = nat_eq (home x) k || among home (suc k) n x

among_within : {X : Type 0} (home : X → ℕ) (k n : ℕ) (x : X) → k ≤ home x → home x < k + n → among home k n x ≡ true
among_within home k zero x low high = absurd (omega arith)
among_within {X} home k (suc n) x low high = told (λ l h. among_within home (suc k) n x l h) (nat_eq (home x) k) refl
  where
    told : (suc k ≤ home x → home x < suc k + n → among home (suc k) n x ≡ true) → (b : Bool) → nat_eq (home x) k ≡ b → (b || among home (suc k) n x) ≡ true
    told g true h = refl
    told g false h = g (grind (arith, nat_tests)) (omega arith)

abbrev pub AllHome : {X : Type 0} → (X → ℕ) → ℕ → List X → Type 0
AllHome home n [] = Unit {0}
AllHome home n (x ∷ xs) = (home x < n) × AllHome home n xs

filter_all : {X : Type 0} (home : X → ℕ) (n : ℕ) (xs : List X) → AllHome home n xs → filter (among home 0 n) xs ≡ xs
filter_all home n [] h = refl
filter_all home n (x ∷ xs) h = rw (among_within home 0 n x (omega arith) (omega (arith, h.0)), filter_all home n xs h.1)

abbrev pub SplitFrom : {X : Type 0} → (X → ℕ) → ℕ → List X → List (List X) → Type 0
SplitFrom home k all [] = Unit {0}
SplitFrom home k all (p ∷ ps) = (p ≡ at_home home k all) × SplitFrom home (suc k) all ps

pub split_from : {X : Type 0} (home : X → ℕ) (k : ℕ) (all : List X) (ps : List (List X))
    → ((m : ℕ) (p : List X) → slice_get ps m ≡ Some p → p ≡ at_home home (m + k) all) → SplitFrom home k all ps
split_from home k all [] h = tt
split_from home k all (p ∷ ps) h = (
  subst (λ (n : ℕ). p ≡ at_home home n all) (omega arith) (h 0 p refl),
  split_from home (suc k) all ps
      (λ m q e. subst (λ (n : ℕ). q ≡ at_home home n all) (omega arith) (h (suc m) q e)),
)

filter_none : {X : Type 0} (xs : List X) → filter (λ _. false) xs ≡ []
filter_none [] = refl
filter_none (x ∷ xs) = filter_none xs

union_from : {X : Type 0} (lt : X → X → Bool) (o : IsOrder lt) (home : X → ℕ) (k : ℕ) (all : List X) (ps : List (List X)) → IsRising lt all
    → SplitFrom home k all ps
    → union lt ps ≡ filter (among home k (length ps)) all
unfolding union
union_from lt o home k all [] r s = sym (filter_none all)
union_from {X} lt o home k all (p ∷ ps) r s = (ap (λ (a : List X). insert_all lt (union lt ps) a) s.0
    ∙ ap (λ (a : List X). insert_all lt a (at_home home k all)) (union_from lt o home (suc k) all ps r s.1)
    ∙ filters_join lt o (λ x. nat_eq (home x) k) (among home (suc k) (length ps)) all r)

-- the parts of a rising list are joined to it
pub union_split : {X : Type 0} (lt : X → X → Bool) (o : IsOrder lt) (home : X → ℕ) (all : List X) (ps : List (List X)) → IsRising lt all
    → AllHome home (length ps) all → IsSplit home all ps
    → union lt ps ≡ all
union_split lt o home all ps r h s = union_from lt o home 0 all ps r
    (split_from home 0 all ps (λ m p e. subst (λ (k : ℕ). p ≡ at_home home k all) (omega arith) (s m p e))) ∙ filter_all home (length ps) all h
