-- An ascending list of pairs is fixed by what it has.
use Rattle.std.proofs.Common.{◌≡◌, ◌⊎◌, ℕ, zero, suc, ◌<◌, Bool, true, false, cond, List, [], ◌∷◌, length}
use Rattle.std.proofs.Common.{get_or, Option, Some, None, refl, sym, ap, ◌∙◌, subst, inl, inr, arith}
use Rattle.std.specs.List.{filter}
use Rattle.std.proofs.lemmas.Bool.Decides.{nat_tests}
use Rattle.std.proofs.lemmas.Option.{none-some, same_Some}
use Rattle.agenda.specs.declared.due.Due.{Due}
use Rattle.agenda.specs.Dues.{comes_before, add_due, IsBelow, Rises}
use Rattle.agenda.proofs.Order.{before_trans, rises_add}
use Rattle.agenda_wheel.specs.Slots.{sorted}

abbrev pub Has : Due → List Due → Type 0
Has y [] = ⊥
Has y (x ∷ xs) = (x ≡ y) ⊎ Has y xs

same_numbers : (d x : Due) → d.tick ≡ x.tick → d.actor.0 ≡ x.actor.0 → d ≡ x
same_numbers d x e f = ap (λ (t : ℕ). record { tick = t; actor = d.actor }) e
    ∙ ap (λ (a : ℕ). record { tick = x.tick; actor = record { 0 = a } }) f

pub same_due : (d x : Due) → comes_before d x ≡ false → comes_before x d ≡ false → x ≡ d
same_due d x p q =
    let e : x.tick ≡ d.tick = grind (arith, nat_tests, p, q) in
    let f : x.actor.0 ≡ d.actor.0 = grind (arith, nat_tests, p, q, e) in
    same_numbers x d e f

never_itself : (d x : Due) → d ≡ x → comes_before d x ≡ true → ⊥
never_itself d x e p =
    let q : comes_before x x ≡ true = subst (λ z. comes_before z x ≡ true) e p in
    let r : x.tick < x.tick = grind (arith, nat_tests, q) in
    absurd (omega (arith, r))

pub below_has : (a y : Due) (xs : List Due) → IsBelow a xs → Has y xs → comes_before a y ≡ true
below_has a y [] b h = absurd h
below_has a y (x ∷ xs) b h = elim h [ inl e ↦ subst (λ z. comes_before a z ≡ true) e b.0 | inr t ↦ below_has a y xs b.1 t ]

pub has_add : (y d : Due) (xs : List Due) → Has y (add_due d xs) → (d ≡ y) ⊎ Has y xs
has_add y d [] h = elim h [ inl e ↦ inl e | inr t ↦ absurd t ]
has_add y d (x ∷ xs) h = told (comes_before d x) (comes_before x d) (λ g. has_add y d xs g) h
  where
    told : (b c : Bool) → (Has y (add_due d xs) → (d ≡ y) ⊎ Has y xs) → Has y (cond b (d ∷ x ∷ xs) (cond c (x ∷ add_due d xs) (x ∷ xs)))
        → (d ≡ y) ⊎ Has y (x ∷ xs)
    told true c more g = g
    told false true more g = elim g [ inl e ↦ inr (inl e) | inr t ↦ elim (more t) [ inl e ↦ inl e | inr u ↦ inr (inr u) ] ]
    told false false more g = inr g

pub add_old : (y d : Due) (xs : List Due) → Has y xs → Has y (add_due d xs)
add_old y d [] h = absurd h
add_old y d (x ∷ xs) h = told (comes_before d x) (comes_before x d) (λ g. add_old y d xs g)
  where
    told : (b c : Bool) → (Has y xs → Has y (add_due d xs)) → Has y (cond b (d ∷ x ∷ xs) (cond c (x ∷ add_due d xs) (x ∷ xs)))
    told true c more = inr h
    told false true more = elim h [ inl e ↦ inl e | inr t ↦ inr (more t) ]
    told false false more = h

pub add_new : (d : Due) (xs : List Due) → Has d (add_due d xs)
add_new d [] = inl refl
add_new d (x ∷ xs) = told (comes_before d x) refl (comes_before x d) refl (add_new d xs)
  where
    told : (b : Bool) → comes_before d x ≡ b → (c : Bool) → comes_before x d ≡ c → Has d (add_due d xs)
        → Has d (cond b (d ∷ x ∷ xs) (cond c (x ∷ add_due d xs) (x ∷ xs)))
    told true e c f more = inl refl
    told false e true f more = inr more
    told false e false f more = inl (same_due d x e f)

pub has_filter : (p : Due → Bool) (y : Due) (xs : List Due) → Has y (filter p xs) → Has y xs × (p y ≡ true)
has_filter p y [] h = absurd h
has_filter p y (x ∷ xs) h = told (p x) refl (λ g. has_filter p y xs g) h
  where
    told : (b : Bool) → p x ≡ b → (Has y (filter p xs) → Has y xs × (p y ≡ true)) → Has y (cond b (x ∷ filter p xs) (filter p xs))
        → Has y (x ∷ xs) × (p y ≡ true)
    told true e more g = elim g [ inl same ↦ (inl same, ap p (sym same) ∙ e) | inr t ↦ (inr (more t).0, (more t).1) ]
    told false e more g = (inr (more g).0, (more g).1)

pub filter_has : (p : Due → Bool) (y : Due) (xs : List Due) → Has y xs → p y ≡ true → Has y (filter p xs)
filter_has p y [] h q = absurd h
filter_has p y (x ∷ xs) h q = told (p x) refl (λ g. filter_has p y xs g q)
  where
    told : (b : Bool) → p x ≡ b → (Has y xs → Has y (filter p xs)) → Has y (cond b (x ∷ filter p xs) (filter p xs))
    told true e more = elim h [ inl same ↦ inl same | inr t ↦ inr (more t) ]
    told false e more = elim h [ inl same ↦ cc (sym e ∙ ap p same ∙ q) | inr t ↦ more t ]

pub same_sets : (xs ys : List Due) → Rises xs → Rises ys → ((z : Due) → Has z xs → Has z ys) → ((z : Due) → Has z ys → Has z xs) → xs ≡ ys
same_sets [] [] r q f g = refl
same_sets [] (y ∷ ys) r q f g = absurd (g y (inl refl))
same_sets (x ∷ xs) [] r q f g = absurd (f x (inl refl))
same_sets (x ∷ xs) (y ∷ ys) r q f g =
    let e : y ≡ x =
    elim (f x (inl refl)) [
      | inl same ↦ same
      | inr later ↦ elim (g y (inl refl)) [
        | inl same ↦ sym same
        | inr after ↦ absurd (never_itself x x refl (before_trans x y x (below_has x y xs r.0 after) (below_has y x ys q.0 later)))
      ]
    ] in
    let fs : (z : Due) → Has z xs → Has z ys = λ z h. elim (f z (inr h)) [
      | inl same ↦ absurd (never_itself x z (sym e ∙ same) (below_has x z xs r.0 h))
      | inr t ↦ t
    ] in
    let gs : (z : Due) → Has z ys → Has z xs = λ z h. elim (g z (inr h)) [
      | inl same ↦ absurd (never_itself y z (e ∙ same) (below_has y z ys q.0 h))
      | inr t ↦ t
    ] in
    ap (λ w. w ∷ xs) (sym e) ∙ ap (λ ws. y ∷ ws) (same_sets xs ys r.1 q.1 fs gs)

-- one more that passes
pub count_add : (p : Due → Bool) (d : Due) (xs : List Due) → p d ≡ true → ¬ Has d xs
    → length (filter p (add_due d xs)) ≡ suc (length (filter p xs))
count_add p d [] e out = rw e refl
count_add p d (x ∷ xs) e out = told (comes_before d x) refl (comes_before x d) refl (count_add p d xs e (λ h. out (inr h)))
  where
    deeper : (b : Bool) → length (filter p (add_due d xs)) ≡ suc (length (filter p xs))
        → length (cond b (x ∷ filter p (add_due d xs)) (filter p (add_due d xs))) ≡ suc (length (cond b (x ∷ filter p xs) (filter p xs)))
    deeper true h = ap suc h
    deeper false h = h

    told : (b : Bool) → comes_before d x ≡ b → (c : Bool) → comes_before x d ≡ c → length (filter p (add_due d xs)) ≡ suc (length (filter p xs))
        → length (filter p (cond b (d ∷ x ∷ xs) (cond c (x ∷ add_due d xs) (x ∷ xs)))) ≡ suc (length (filter p (x ∷ xs)))
    told true f c g more = rw e refl
    told false f true g more = deeper (p x) more
    told false f false g more = absurd (out (inl (same_due d x f g)))

-- ---- the pairs of a vector

pub rises_sorted : (s : List (Option Due)) → Rises (sorted s)
rises_sorted [] = tt
rises_sorted (None ∷ s) = rises_sorted s
rises_sorted (Some d ∷ s) = rises_add d (sorted s) (rises_sorted s)

pub has_slot : (y : Due) (s : List (Option Due)) → Has y (sorted s) → (i : ℕ) × (get_or s i None ≡ Some y)
has_slot y [] h = absurd h
has_slot y (None ∷ s) h = let m = has_slot y s h in (suc m.0, m.1)
has_slot y (Some d ∷ s) h =
    elim (has_add y d (sorted s) h) [
      | inl e ↦ (zero, ap Some e)
      | inr t ↦ let m = has_slot y s t in (suc m.0, m.1)
    ]

pub slot_has : (y : Due) (s : List (Option Due)) (i : ℕ) → get_or s i None ≡ Some y → Has y (sorted s)
slot_has y [] i e = absurd (none-some y e)
slot_has y (None ∷ s) zero e = absurd (none-some y e)
slot_has y (Some d ∷ s) zero e = subst (λ z. Has z (add_due d (sorted s))) (same_Some d y e) (add_new d (sorted s))
slot_has y (None ∷ s) (suc i) e = slot_has y s i e
slot_has y (Some d ∷ s) (suc i) e = add_old y d (sorted s) (slot_has y s i e)
