-- The least tick of an ascending list of pairs, and what an edit does to the least of each bucket.
use Rattle.std.proofs.Common.{◌≡◌, ◌≢◌, ℕ, ◌+◌, ◌-◌, ◌<◌, ◌≤◌, ◌%◌, true, false, not, nat_eq, min, List, []}
use Rattle.std.proofs.Common.{◌∷◌, length, get_or, set, Option, Some, None, refl, sym, ap, ◌∙◌, inl, inr, arith, length-set}
use Rattle.std.proofs.lemmas.Bool.{cases_eq}
use Rattle.std.proofs.lemmas.Bool.Decides.{nat_tests}
use Rattle.std.proofs.lemmas.Option.{none-some, same_Some}
use Rattle.std.proofs.lemmas.List.{get_or-set_same, get_or-set_other}
use Rattle.agenda.specs.declared.due.Due.{Due}
use Rattle.agenda.specs.Dues.{comes_before, add_due, without_tick, least, Rises}
use Rattle.agenda.proofs.Order.{rises_add, rises_filter}
use Rattle.agenda_wheel.specs.Kept.{in_bucket, KeepsLeasts}
use Rattle.agenda_wheel.specs.Seen.{lesser, IsLeastBelow}
use Rattle.agenda_wheel.specs.Slots.{sorted, Distinct}
use Rattle.agenda_wheel.specs.Wheel.{bucket}
use Rattle.agenda_wheel.proofs.Dropping.{left, has_was, has_still}
use Rattle.agenda_wheel.proofs.Sets.{Has, same_sets, below_has, has_add, add_new, add_old, has_filter, filter_has, rises_sorted}
use Rattle.agenda_wheel.proofs.Sets.{slot_has}

not_later : (x y : Due) → comes_before x y ≡ true → x.tick ≤ y.tick
not_later x y p = grind (arith, nat_tests, p)

pub least_has : (xs : List Due) (t : ℕ) → least xs ≡ Some t → (z : Due) × Has z xs × (z.tick ≡ t)
least_has [] t e = absurd (none-some t e)
least_has (x ∷ xs) t e = (x, inl refl, same_Some x.tick t e)

pub least_low : (xs : List Due) (t : ℕ) → Rises xs → least xs ≡ Some t → (y : Due) → Has y xs → t ≤ y.tick
least_low [] t r e y h = absurd h
least_low (x ∷ xs) t r e y h =
    let f = same_Some x.tick t e in
    elim h [
      | inl same ↦ let g = ap (λ (d : Due). d.tick) same in omega (arith, f, g)
      | inr later ↦ let g = not_later x y (below_has x y xs r.0 later) in omega (arith, f, g)
    ]

pub least_none : (xs : List Due) → least xs ≡ None → (y : Due) → ¬ Has y xs
least_none [] e y h = h
least_none (x ∷ xs) e y h = none-some x.tick (sym e)

pub none_least : (xs : List Due) → ((y : Due) → ¬ Has y xs) → least xs ≡ None
none_least [] h = refl
none_least (x ∷ xs) h = absurd (h x (inl refl))

pub least_at : (xs : List Due) (z : Due) → Rises xs → Has z xs → ((y : Due) → Has y xs → z.tick ≤ y.tick) → least xs ≡ Some z.tick
least_at [] z r h low = absurd h
least_at (x ∷ xs) z r h low =
    let a = low x (inl refl) in
    let b : x.tick ≤ z.tick = elim h [
      | inl same ↦ let g = ap (λ (d : Due). d.tick) same in omega (arith, g)
      | inr later ↦ not_later x z (below_has x z xs r.0 later)
    ] in
    let e : x.tick ≡ z.tick = omega (arith, a, b) in
    ap Some e

-- ---- buckets

same_bucket : (d : Due) (b : ℕ) → bucket d ≡ b → nat_eq (bucket d) b ≡ true
same_bucket d b e = grind (arith, nat_tests, e)

other_bucket : (d : Due) (b : ℕ) → bucket d ≢ b → nat_eq (bucket d) b ≡ false
other_bucket d b e = grind (arith, nat_tests, e)

is_bucket : (d : Due) (b : ℕ) → nat_eq (bucket d) b ≡ true → bucket d ≡ b
is_bucket d b e = grind (arith, nat_tests, e)

pub bucket_small : (d : Due) → bucket d < 1024
bucket_small d = omega arith

pub in_has : (b : ℕ) (y : Due) (xs : List Due) → Has y xs → bucket y ≡ b → Has y (in_bucket b xs)
in_has b y xs h e = filter_has (λ d. nat_eq (bucket d) b) y xs h (same_bucket y b e)

pub has_in : (b : ℕ) (y : Due) (xs : List Due) → Has y (in_bucket b xs) → Has y xs × (bucket y ≡ b)
has_in b y xs h = let m = has_filter (λ d. nat_eq (bucket d) b) y xs h in (m.0, is_bucket y b m.1)

pub in_rises : (b : ℕ) (xs : List Due) → Rises xs → Rises (in_bucket b xs)
in_rises b xs r = rises_filter (λ d. nat_eq (bucket d) b) xs r

some_is : (o : Option ℕ) → o ≢ None → (t : ℕ) × (o ≡ Some t)
some_is None h = absurd (h refl)
some_is (Some t) h = (t, refl)

-- the least tick of all is the least of the buckets'
pub all_least : (dues : List Due) (ls : List (Option ℕ)) (o : Option ℕ) → Rises dues → KeepsLeasts dues ls → IsLeastBelow ls 1024 o
    → o ≡ least dues
all_least dues ls None r k h =
    sym (none_least dues (λ y t. least_none (in_bucket (bucket y) dues) (sym (k.right (bucket y) (bucket_small y))
    ∙ h (bucket y) (bucket_small y)) y (in_has (bucket y) y dues t refl)))
all_least dues ls (Some t) r k h =
    let e = sym (k.right h.0.0 h.0.1) ∙ h.0.2 in
    let z = least_has (in_bucket h.0.0 dues) t e in
    let inside = has_in h.0.0 z.0 dues z.1 in
    let low : (y : Due) → Has y dues → z.0.tick ≤ y.tick = λ y there.
    let b = bucket y in
    let mine = in_has b y dues there refl in
    let s = some_is (get_or ls b None) (λ n. least_none (in_bucket b dues) (sym (k.right b (bucket_small y)) ∙ n) y mine) in
    let u = h.1 b s.0 (bucket_small y) s.1 in
    let v = least_low (in_bucket b dues) s.0 (in_rises b dues r) (sym (k.right b (bucket_small y)) ∙ s.1) y mine in
    omega (arith, u, v, z.2) in
    sym (least_at dues z.0 r inside.0 low ∙ ap Some z.2)

-- a number below all pairs is the least where its bucket has it
pub floor_least : (dues : List Due) (ls : List (Option ℕ)) (floor : ℕ) → Rises dues → KeepsLeasts dues ls
    → ((y : Due) → Has y dues → floor ≤ y.tick)
    → get_or ls (floor % 1024) None ≡ Some floor → Some floor ≡ least dues
floor_least dues ls floor r k low e =
    let b = floor % 1024 in
    let z = least_has (in_bucket b dues) floor (sym (k.right b (omega arith)) ∙ e) in
    let inside = has_in b z.0 dues z.1 in
    sym (least_at dues z.0 r inside.0 (λ y h. let m = low y h in omega (arith, m, z.2)) ∙ ap Some z.2)

-- ---- a pair more

out_add : (b : ℕ) (d : Due) (xs : List Due) → Rises xs → bucket d ≢ b → in_bucket b (add_due d xs) ≡ in_bucket b xs
out_add b d xs r ne =
    same_sets _ _ (in_rises b (add_due d xs) (rises_add d xs r)) (in_rises b xs r)
    (λ z h. let m = has_in b z (add_due d xs) h in
    elim (has_add z d xs m.0) [
      | inl e ↦ absurd (ne (ap bucket e ∙ m.1))
      | inr t ↦ in_has b z xs t m.1
    ])
    (λ z h. let m = has_in b z xs h in in_has b z (add_due d xs) (add_old z d xs m.0) m.1)

in_add : (d : Due) (xs : List Due) (o : Option ℕ) → Rises xs → o ≡ least (in_bucket (bucket d) xs)
    → lesser o (Some d.tick) ≡ least (in_bucket (bucket d) (add_due d xs))
in_add d xs None r e =
    sym (least_at (in_bucket (bucket d) (add_due d xs)) d (in_rises (bucket d) (add_due d xs) (rises_add d xs r))
    (in_has (bucket d) d (add_due d xs) (add_new d xs) refl)
    (λ y h. let m = has_in (bucket d) y (add_due d xs) h in
    elim (has_add y d xs m.0) [
      | inl same ↦ let g = ap (λ (x : Due). x.tick) same in omega (arith, g)
      | inr t ↦ absurd (least_none (in_bucket (bucket d) xs) (sym e) y (in_has (bucket d) y xs t m.1))
    ]))
in_add d xs (Some t) r e =
    let z = least_has (in_bucket (bucket d) xs) t (sym e) in
    let inside = has_in (bucket d) z.0 xs z.1 in
    let old : (y : Due) → Has y xs → bucket y ≡ bucket d → t ≤ y.tick = λ y h f.
    least_low (in_bucket (bucket d) xs) t (in_rises (bucket d) xs r) (sym e) y (in_has (bucket d) y xs h f) in
    elim (cases_eq (d.tick - t) 0) [
      | inl less ↦
          sym (least_at (in_bucket (bucket d) (add_due d xs)) d (in_rises (bucket d) (add_due d xs) (rises_add d xs r))
          (in_has (bucket d) d (add_due d xs) (add_new d xs) refl)
          (λ y h. let m = has_in (bucket d) y (add_due d xs) h in
          elim (has_add y d xs m.0) [
            | inl same ↦ let g = ap (λ (x : Due). x.tick) same in omega (arith, g)
            | inr there ↦ let v = old y there m.1 in omega (arith, v, less)
          ]) ∙ ap Some (let q : d.tick ≡ min t d.tick = omega (arith, less) in q))
      | inr more ↦
          sym (least_at (in_bucket (bucket d) (add_due d xs)) z.0 (in_rises (bucket d) (add_due d xs) (rises_add d xs r))
          (in_has (bucket d) z.0 (add_due d xs) (add_old z.0 d xs inside.0) inside.1)
          (λ y h. let m = has_in (bucket d) y (add_due d xs) h in
          elim (has_add y d xs m.0) [
            | inl same ↦ let g = ap (λ (x : Due). x.tick) same in omega (arith, g, more, z.2)
            | inr there ↦ let v = old y there m.1 in omega (arith, v, z.2)
          ]) ∙ ap Some (let q : z.0.tick ≡ min t d.tick = omega (arith, more, z.2) in q))
    ]

pub noted : (d : Due) (xs : List Due) (ls : List (Option ℕ)) → Rises xs → KeepsLeasts xs ls
    → KeepsLeasts (add_due d xs) (set ls (bucket d) (lesser (get_or ls (bucket d) None) (Some d.tick)))
noted d xs ls r k =
    record {
      size = length-set ls (bucket d) (lesser (get_or ls (bucket d) None) (Some d.tick)) ∙ k.size;
      right = λ b small. elim (cases_eq b (bucket d)) [
        | inl e ↦
            rw e
            (get_or-set_same ls (bucket d) (lesser (get_or ls (bucket d) None) (Some d.tick)) None (let s = bucket_small d in
            omega (arith, s, k.size))
            ∙ in_add d xs (get_or ls (bucket d) None) r (k.right (bucket d) (bucket_small d)))
        | inr ne ↦
            get_or-set_other ls (bucket d) b (lesser (get_or ls (bucket d) None) (Some d.tick)) None ne ∙ k.right b small
            ∙ sym (ap least (out_add b d xs r (λ e. ne (sym e))))
      ];
    }

-- ---- a pair less

module _ (s : List (Option Due)) (x : ℕ) (d : Due) (at : get_or s x None ≡ Some d) (apart : Distinct s) (ls : List (Option ℕ))
    (k : KeepsLeasts (sorted s) ls) where
  abbrev less : List (Option Due)
  less = set s x None

  pub others_stay : (b : ℕ) → b < 1024 → b ≢ bucket d → get_or ls b None ≡ least (in_bucket b (sorted less))
  others_stay b small ne = k.right b small ∙ sym (ap least (left s x d at apart (λ y. nat_eq (bucket y) b) (other_bucket d b (λ e. ne (sym e)))))

  -- where another pair is the least of the bucket, it stays so
  pub later_left : get_or ls (bucket d) None ≢ Some d.tick → get_or ls (bucket d) None ≡ least (in_bucket (bucket d) (sorted less))
  later_left ne =
      let b = bucket d in
      let right = k.right b (bucket_small d) in
      let mine = in_has b d (sorted s) (slot_has d s x at) refl in
      let o = some_is (get_or ls b None) (λ n. least_none (in_bucket b (sorted s)) (sym right ∙ n) d mine) in
      let z = least_has (in_bucket b (sorted s)) o.0 (sym right ∙ o.1) in
      let inside = has_in b z.0 (sorted s) z.1 in
      let low : (y : Due) → Has y (in_bucket b (sorted less)) → z.0.tick ≤ y.tick = λ y h.
      let m = has_in b y (sorted less) h in
      let v = least_low (in_bucket b (sorted s)) o.0 (in_rises b (sorted s) (rises_sorted s)) (sym right
      ∙ o.1) y (in_has b y (sorted s) (has_was s x d at apart y m.0) m.1) in
      omega (arith, v, z.2) in
      elim (has_still s x d at apart z.0 inside.0) [
        | inl e ↦ absurd (ne (o.1 ∙ ap Some (sym z.2 ∙ ap (λ (y : Due). y.tick) (sym e))))
        | inr t ↦
            o.1 ∙ ap Some (sym z.2)
            ∙ sym (least_at (in_bucket b (sorted less)) z.0 (in_rises b (sorted less) (rises_sorted less))
            (in_has b z.0 (sorted less) t inside.1) low)
      ]

-- the other buckets have no pair of the tick
pub others_without : (tick : ℕ) (xs : List Due) (b : ℕ) → Rises xs → b ≢ tick % 1024 → in_bucket b (without_tick tick xs) ≡ in_bucket b xs
others_without tick xs b r ne =
    same_sets _ _ (in_rises b (without_tick tick xs) (rises_filter (λ d. not (nat_eq d.tick tick)) xs r)) (in_rises b xs r)
    (λ z h. let m = has_in b z (without_tick tick xs) h in
    let w = has_filter (λ d. not (nat_eq d.tick tick)) z xs m.0 in in_has b z xs w.0 m.1)
    (λ z h. let m = has_in b z xs h in
    in_has b z (without_tick tick xs) (filter_has (λ d. not (nat_eq d.tick tick)) z xs m.0 (stays z m.1)) m.1)
  where
    stays : (z : Due) → bucket z ≡ b → not (nat_eq z.tick tick) ≡ true
    stays z e =
        let other : z.tick ≢ tick = λ f. ne (sym e ∙ ap (λ t. t % 1024) f) in
        grind (arith, nat_tests, other)

-- ---- one bucket found anew

pub renewed : (dues : List Due) (ls : List (Option ℕ)) (b : ℕ) (v : Option ℕ) → length ls ≡ 1024 → b < 1024
    → ((c : ℕ) → c < 1024 → c ≢ b → get_or ls c None ≡ least (in_bucket c dues))
    → v ≡ least (in_bucket b dues) → KeepsLeasts dues (set ls b v)
renewed dues ls b v size inside others e =
    record {
      size = length-set ls b v ∙ size;
      right = λ c small. elim (cases_eq c b) [
        | inl same ↦ rw same (get_or-set_same ls b v None (omega (arith, inside, size)) ∙ e)
        | inr ne ↦ get_or-set_other ls b c v None ne ∙ others c small ne
      ];
    }

pub all_right : (dues : List Due) (ls : List (Option ℕ)) (b : ℕ) → length ls ≡ 1024
    → ((c : ℕ) → c < 1024 → c ≢ b → get_or ls c None ≡ least (in_bucket c dues))
    → get_or ls b None ≡ least (in_bucket b dues) → KeepsLeasts dues ls
all_right dues ls b size others own =
    record {
      size = size;
      right = λ c small. elim (cases_eq c b) [ inl same ↦ rw same own | inr ne ↦ others c small ne ];
    }

-- ---- the least number of all

pub least_more : (ls : List (Option ℕ)) (i : ℕ) (o v : Option ℕ) → get_or ls i None ≡ v → IsLeastBelow ls i o
    → IsLeastBelow ls (i + 1) (lesser o v)
least_more ls i None None e h = λ k p. elim (cases_eq k i) [
  | inl same ↦ ap (λ j. get_or ls j None) same
      ∙ e
  | inr ne ↦ h k (omega (arith, p, ne))
]
least_more ls i None (Some u) e h = (
  (i, omega arith, e),
  λ k t p f. elim (cases_eq k i) [
    | inl same ↦ let g = same_Some u t (sym e ∙ ap (λ j. get_or ls j None) (sym same) ∙ f) in omega (arith, g)
    | inr ne ↦ absurd (none-some t (sym (h k (omega (arith, p, ne))) ∙ f))
  ],
)
least_more ls i (Some t) None e h = (
  (h.0.0, omega (arith, h.0.1), h.0.2),
  λ k u p f. elim (cases_eq k i) [
    | inl same ↦ absurd (none-some u (sym e ∙ ap (λ j. get_or ls j None) (sym same) ∙ f))
    | inr ne ↦ h.1 k u (omega (arith, p, ne)) f
  ],
)
least_more ls i (Some t) (Some u) e h =
    let low : (k w : ℕ) → k < i + 1 → get_or ls k None ≡ Some w → min t u ≤ w = λ k w p f. elim (cases_eq k i) [
      | inl same ↦ let g = same_Some u w (sym e ∙ ap (λ j. get_or ls j None) (sym same) ∙ f) in omega (arith, g)
      | inr ne ↦ let g = h.1 k w (omega (arith, p, ne)) f in omega (arith, g)
    ] in
    elim (cases_eq (t - u) 0) [
      | inl less ↦ ((h.0.0, omega (arith, h.0.1), h.0.2 ∙ ap Some (let q : t ≡ min t u = omega (arith, less) in q)), low)
      | inr more ↦ ((i, omega arith, e ∙ ap Some (let q : u ≡ min t u = omega (arith, more) in q)), low)
    ]
