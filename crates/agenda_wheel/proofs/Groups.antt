-- What a write of one number does to the least of a row, and the least of all as that of the groups'.
use Rattle.std.proofs.Common.{◌≡◌, ◌≢◌, ℕ, ◌+◌, ◌*◌, ◌-◌, ◌<◌, ◌≤◌, ◌/◌, ◌%◌, min, List, length, get_or, set, take, drop, Option, Some, None, refl, sym, ap, ◌∙◌, subst}
use Rattle.std.proofs.Common.{inl, inr, arith, length-set, length-drop, replicate}
use Rattle.std.proofs.lemmas.Bool.{cases_eq}
use Rattle.std.proofs.lemmas.List.{get_or-set_same, get_or-set_other, get_or-replicate, length-replicate, get_or-drop, get_or-take, length-take-le}
use Rattle.std.proofs.lemmas.Option.{none-some, same_Some}
use Rattle.agenda_wheel.specs.Groups.{in_group, KeepsGroups}
use Rattle.agenda_wheel.specs.Seen.{lesser, LeastOf, IsLeastBelow}

-- a row that reads the same has the same least
pub least_same : (f g : ℕ → Option ℕ) (n : ℕ) (o : Option ℕ) → ((k : ℕ) → k < n → g k ≡ f k) → LeastOf f n o → LeastOf g n o
least_same f g n None same h = λ k p. same k p ∙ h k p
least_same f g n (Some t) same h = (
  (h.0.0, h.0.1, same h.0.0 h.0.1 ∙ h.0.2),
  λ k u p e. h.1 k u p (sym (same k p) ∙ e),
)

-- one number is written: where the old one was the least, the new one is no greater
pub least_written : (f g : ℕ → Option ℕ) (n i : ℕ) (o v : Option ℕ) → i < n → ((k : ℕ) → k < n → k ≢ i → g k ≡ f k) → g i ≡ v
    → ((t : ℕ) → f i ≡ Some t → o ≡ Some t → (u : ℕ) × (v ≡ Some u) × (u ≤ t)) → LeastOf f n o → LeastOf g n (lesser o v)
least_written f g n i None None inside same here old h = λ k p. elim (cases_eq k i) [
  | inl e ↦ ap g e ∙ here
  | inr ne ↦ same k p ne ∙ h k p
]
least_written f g n i None (Some u) inside same here old h = (
  (i, inside, here),
  λ k w p e. elim (cases_eq k i) [
    | inl q ↦ let r = same_Some u w (sym here ∙ ap g (sym q) ∙ e) in omega (arith, r)
    | inr ne ↦ absurd (none-some w (sym (h k p) ∙ sym (same k p ne) ∙ e))
  ],
)
least_written f g n i (Some t) None inside same here old h =
    let moved : h.0.0 ≢ i = λ q. let m = old t (ap f (sym q) ∙ h.0.2) refl in none-some m.0 m.1 in (
      (h.0.0, h.0.1, same h.0.0 h.0.1 moved ∙ h.0.2),
      λ k w p e. elim (cases_eq k i) [
        | inl q ↦ absurd (none-some w (sym here ∙ ap g (sym q) ∙ e))
        | inr ne ↦ h.1 k w p (sym (same k p ne) ∙ e)
      ],
    )
least_written f g n i (Some t) (Some u) inside same here old h =
    let low : (k w : ℕ) → k < n → g k ≡ Some w → min t u ≤ w = λ k w p e. elim (cases_eq k i) [
      | inl q ↦ let r = same_Some u w (sym here ∙ ap g (sym q) ∙ e) in omega (arith, r)
      | inr ne ↦ let r = h.1 k w p (sym (same k p ne) ∙ e) in omega (arith, r)
    ] in
    elim (cases_eq (u - t) 0) [
      | inl less ↦ ((i, inside, here ∙ ap Some (let q : u ≡ min t u = omega (arith, less) in q)), low)
      | inr more ↦
          let moved : h.0.0 ≢ i = λ q.
          let m = old t (ap f (sym q) ∙ h.0.2) refl in
          let r = same_Some u m.0 m.1 in
          omega (arith, r, m.2, more) in (
            (
              h.0.0,
              h.0.1,
              same h.0.0 h.0.1 moved ∙ h.0.2 ∙ ap Some (let q : t ≡ min t u = omega (arith, more) in q),
            ),
            low,
          )
    ]

-- the least of the groups' leasts is the least of all
pub least_of_groups : (bs gs : List (Option ℕ)) (o : Option ℕ) → KeepsGroups bs gs → IsLeastBelow gs (length gs) o
    → IsLeastBelow bs (length bs) o
least_of_groups bs gs None k h = λ b p.
    let g = b / 32 in
    let i = b % 32 in
    let small : g < 32 = omega (arith, p, k.buckets) in
    let e : b ≡ 32 * g + i = omega arith in
    let none = subst (LeastOf (in_group bs g) 32) (h g (omega (arith, small, k.groups))) (k.right g small) in
    ap (λ j. get_or bs j None) e ∙ none i (omega arith)
least_of_groups bs gs (Some t) k h =
    let g = h.0.0 in
    let small : g < 32 = omega (arith, h.0.1, k.groups) in
    let own = subst (LeastOf (in_group bs g) 32) h.0.2 (k.right g small) in
    let i = own.0.0 in (
      (32 * g + i, omega (arith, small, own.0.1, k.buckets), own.0.2),
      λ b w p e.
          let c = b / 32 in
          let j = b % 32 in
          let tiny : c < 32 = omega (arith, p, k.buckets) in
          let q : b ≡ 32 * c + j = omega arith in
          below c j (get_or gs c None) refl tiny (omega arith) w (ap (λ a. get_or bs a None) (sym q) ∙ e),
    )
  where
    below : (c j : ℕ) (v : Option ℕ) → get_or gs c None ≡ v → c < 32 → j < 32 → (w : ℕ) → in_group bs c j ≡ Some w → t ≤ w
    below c j None e small inside w f =
        let none = subst (LeastOf (in_group bs c) 32) e (k.right c small) in
        absurd (none-some w (sym (none j inside) ∙ f))
    below c j (Some v) e small inside w f =
        let own = subst (LeastOf (in_group bs c) 32) e (k.right c small) in
        let a = own.1 j w inside f in
        let d = h.1 c v (omega (arith, small, k.groups)) e in
        omega (arith, a, d)

-- the least of what is cut out for a group
pub group_cut : (bs : List (Option ℕ)) (s n g : ℕ) (o : Option ℕ) → length bs ≡ 1024 → g < 32 → s ≡ 32 * g → n ≡ 32
    → IsLeastBelow (take n (drop s bs)) (length (take n (drop s bs))) o → LeastOf (in_group bs g) 32 o
group_cut bs s n g o size small from to h =
    let e : length (take n (drop s bs)) ≡ 32 = length-take-le n (drop s bs) (let d = length-drop s bs in omega (arith, d, size, small, from, to)) ∙ to in
    least_same (λ k. get_or (take n (drop s bs)) k None) (in_group bs g) 32 o
    (λ k p. ap (λ j. get_or bs j None) (let q : 32 * g + k ≡ s + k = omega (arith, from) in q) ∙ sym (get_or-drop s bs k None)
    ∙ sym (get_or-take n (drop s bs) k None (omega (arith, p, to))))
    (subst (λ m. IsLeastBelow (take n (drop s bs)) m o) e h)

-- ---- one bucket is written

-- the group of the bucket has the least that is told, and the other groups keep theirs
pub group_written : (bs gs : List (Option ℕ)) (b : ℕ) (v o : Option ℕ) → b < 1024 → KeepsGroups bs gs
    → LeastOf (in_group (set bs b v) (b / 32)) 32 o → KeepsGroups (set bs b v) (set gs (b / 32) o)
group_written bs gs b v o inside k own = record {
  buckets = length-set bs b v ∙ k.buckets;
  groups = length-set gs (b / 32) o ∙ k.groups;
  right = λ g small. elim (cases_eq g (b / 32)) [
    | inl e ↦
        let here : get_or (set gs (b / 32) o) (b / 32) None ≡ o = get_or-set_same gs (b / 32) o None (omega (arith, inside, k.groups)) in
        rw e (subst (LeastOf (in_group (set bs b v) (b / 32)) 32) (sym here) own)
    | inr ne ↦
        let there : get_or (set gs (b / 32) o) g None ≡ get_or gs g None = get_or-set_other gs (b / 32) g o None ne in
        subst (LeastOf (in_group (set bs b v) g) 32) (sym there)
        (least_same (in_group bs g) (in_group (set bs b v) g) 32 (get_or gs g None)
        (λ i p. get_or-set_other bs b (32 * g + i) v None (λ q. ne (omega (arith, p, q)))) (k.right g small))
  ];
}

-- where the old number was the least of its group, the new one is no greater
own_written : (bs gs : List (Option ℕ)) (b : ℕ) (v : Option ℕ) → b < 1024 → KeepsGroups bs gs
    → ((t : ℕ) → get_or bs b None ≡ Some t → get_or gs (b / 32) None ≡ Some t → (u : ℕ) × (v ≡ Some u) × (u ≤ t))
    → LeastOf (in_group (set bs b v) (b / 32)) 32 (lesser (get_or gs (b / 32) None) v)
own_written bs gs b v inside k old =
    let at : 32 * (b / 32) + b % 32 ≡ b = omega arith in
    least_written (in_group bs (b / 32)) (in_group (set bs b v) (b / 32)) 32 (b % 32) (get_or gs (b / 32) None) v (omega arith)
    (λ i p ne. get_or-set_other bs b (32 * (b / 32) + i) v None (λ q. ne (omega (arith, at, q))))
    (ap (λ j. get_or (set bs b v) j None) at ∙ get_or-set_same bs b v None (omega (arith, inside, k.buckets)))
    (λ t e. old t (ap (λ j. get_or bs j None) (sym at) ∙ e)) (k.right (b / 32) (omega (arith, inside)))

-- the least of a group is no greater than a number in it
lesser_twice : (f : ℕ → Option ℕ) (n i t : ℕ) (o a : Option ℕ) → i < n → f i ≡ a → LeastOf f n o
    → lesser o (lesser a (Some t)) ≡ lesser o (Some t)
lesser_twice f n i t None None p e h = refl
lesser_twice f n i t None (Some s) p e h = absurd (none-some s (sym (h i p) ∙ e))
lesser_twice f n i t (Some u) None p e h = refl
lesser_twice f n i t (Some u) (Some s) p e h =
    let low = h.1 i s p e in
    ap Some (let q : min u (min s t) ≡ min u t = omega (arith, low) in q)

lesser_low : (a : Option ℕ) (s t : ℕ) → a ≡ Some s → (u : ℕ) × (lesser a (Some t) ≡ Some u) × (u ≤ s)
lesser_low None s t e = absurd (none-some s e)
lesser_low (Some r) s t e = let q = same_Some r s e in (min r t, refl, omega (arith, q))

-- a tick joins its bucket
pub group_noted : (bs gs : List (Option ℕ)) (b t : ℕ) → b < 1024 → KeepsGroups bs gs
    → KeepsGroups (set bs b (lesser (get_or bs b None) (Some t))) (set gs (b / 32) (lesser (get_or gs (b / 32) None) (Some t)))
group_noted bs gs b t inside k =
    let v = lesser (get_or bs b None) (Some t) in
    let at : 32 * (b / 32) + b % 32 ≡ b = omega arith in
    let e = lesser_twice (in_group bs (b / 32)) 32 (b % 32) t (get_or gs (b / 32) None) (get_or bs b None) (omega arith)
    (ap (λ j. get_or bs j None) at) (k.right (b / 32) (omega (arith, inside))) in
    group_written bs gs b v (lesser (get_or gs (b / 32) None) (Some t)) inside k
    (subst (LeastOf (in_group (set bs b v) (b / 32)) 32) e
    (own_written bs gs b v inside k (λ s p q. lesser_low (get_or bs b None) s t p)))

-- a bucket gets another number, where the old one was not the least of its group
pub group_lowered : (bs gs : List (Option ℕ)) (b : ℕ) (v : Option ℕ) → b < 1024 → KeepsGroups bs gs
    → ((t : ℕ) → get_or bs b None ≡ Some t → get_or gs (b / 32) None ≢ Some t)
    → KeepsGroups (set bs b v) (set gs (b / 32) (lesser (get_or gs (b / 32) None) v))
group_lowered bs gs b v inside k other =
    group_written bs gs b v (lesser (get_or gs (b / 32) None) v) inside k
    (own_written bs gs b v inside k (λ t p q. absurd (other t p q)))

-- ---- at the start

nothing : Option ℕ
nothing = None

pub groups_empty : KeepsGroups (replicate 1024 None) (replicate 32 None)
unfolding nothing
groups_empty = record {
  buckets = length-replicate 1024 nothing;
  groups = length-replicate 32 nothing;
  right = λ g small.
      let none : get_or (replicate 32 nothing) g None ≡ None = get_or-replicate 32 g nothing nothing small in
      subst (LeastOf (in_group (replicate 1024 nothing) g) 32) (sym none)
      (λ i p. get_or-replicate 1024 (32 * g + i) nothing nothing (omega (arith, small, p)));
}
