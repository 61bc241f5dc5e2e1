-- One pair more.
use Rattle.std.proofs.Common.{◌≡◌, ◌≢◌, ◌⊎◌, ℕ, zero, suc, ◌+◌, ◌<◌, cond, count_by, List, [], ◌∷◌}
use Rattle.std.proofs.Common.{length, get_or, set, Option, Some, None, refl, sym, ap, ◌∙◌, subst, inl, inr, arith}
use Rattle.std.proofs.lemmas.Bool.{cases_eq}
use Rattle.std.proofs.lemmas.Option.{none-some, same_Some}
use Rattle.std.proofs.lemmas.List.{get_or-set_same, get_or-set_other, length-map}
use Rattle.std.proofs.lemmas.List.Sums.{sum_by-cons, sum_by-set}
use Rattle.agenda.specs.declared.due.Due.{Due}
use Rattle.agenda.specs.Dues.{add_due}
use Rattle.agenda.proofs.Order.{rises_add}
use Rattle.agenda_wheel.specs.Kept.{is_free}
use Rattle.agenda_wheel.specs.Slots.{sorted, Distinct}
use Rattle.agenda_wheel.specs.Nodes.{nil, head_of}
use Rattle.agenda_wheel.specs.Wheel.{pair_at, pairs_of, list_for, actor_color, Sound}
use Rattle.agenda_wheel.specs.declared.links.Node.{Node}
use Rattle.agenda_wheel.proofs.Linking.{some_head}
use Rattle.agenda_wheel.proofs.Dropping.{slot_in}
use Rattle.agenda_wheel.proofs.Freeing.{lt_true, actor_in, map_get}
use Rattle.agenda_wheel.proofs.Sets.{Has, same_sets, has_add, add_new, add_old, rises_sorted, has_slot, slot_has}

pub free_some : (s : List (Option Due)) → 0 < count_by is_free s → (x : ℕ) × (x < length s) × (get_or s x None ≡ None)
free_some [] h = absurd (omega arith)
free_some (None ∷ s) h = (zero, omega arith, refl)
free_some (Some d ∷ s) h =
    let k = sum_by-cons (λ o. cond (is_free o) 1 0) (Some d) s in
    let m = free_some s (omega (arith, k, h)) in
    (suc m.0, omega (arith, m.1), m.2)

none_of_zero : (o : Option Due) → list_for o ≡ 0 → o ≡ None
none_of_zero None e = refl
none_of_zero (Some d) e = absurd (omega (arith, e))

module _ (ns : List Node) (ts hs : List ℕ) (s : Sound ns ts hs) (room : 0 < count_by is_free (pairs_of ns)) where
  head_free : head_of hs 0 ≢ nil
  head_free =
      let m = free_some (pairs_of ns) room in
      let inside : m.0 < length ns = omega (arith, m.1, length-map ns (λ (n : Node). n.pair)) in
      let c : actor_color ns m.0 ≡ Some 0 =
      ap (λ k. cond k (Some (list_for (pair_at ns m.0))) None) (lt_true m.0 (length ns) inside)
      ∙ ap (λ o. Some (list_for o)) (sym (map_get ns m.0) ∙ m.2) in
      some_head _ _ _ _ _ s.by_actor m.0 0 c

  pub head_in : head_of hs 0 < length ns
  head_in = actor_in ns (head_of hs 0) 0 (s.by_actor.heads 0 head_free).0

  pub head_empty : pair_at ns (head_of hs 0) ≡ None
  head_empty =
      let k = (s.by_actor.heads 0 head_free).0 in
      none_of_zero (pair_at ns (head_of hs 0)) (same_Some (list_for (pair_at ns (head_of hs 0))) 0
      (sym (ap (λ b. cond b (Some (list_for (pair_at ns (head_of hs 0)))) None) (lt_true (head_of hs 0) (length ns) head_in)) ∙ k))

module _ (s : List (Option Due)) (x : ℕ) (d : Due) (inside : x < length s) (empty : get_or s x None ≡ None) where
  abbrev more : List (Option Due)
  more = set s x (Some d)

  new_here : get_or more x None ≡ Some d
  new_here = get_or-set_same s x (Some d) None inside

  kept : (i : ℕ) (y : Due) → get_or s i None ≡ Some y → get_or more i None ≡ Some y
  kept i y h = get_or-set_other s x i (Some d) None (λ e. none-some y (sym empty ∙ ap (λ k. get_or s k None) (sym e) ∙ h)) ∙ h

  was : (i : ℕ) (y : Due) → get_or more i None ≡ Some y → (d ≡ y) ⊎ (get_or s i None ≡ Some y)
  was i y h =
      elim (cases_eq i x) [
        | inl e ↦ inl (same_Some d y (sym new_here ∙ ap (λ k. get_or more k None) (sym e) ∙ h))
        | inr ne ↦ inr (sym (get_or-set_other s x i (Some d) None ne) ∙ h)
      ]

  pub sorted_more : sorted more ≡ add_due d (sorted s)
  sorted_more =
      same_sets _ _ (rises_sorted more) (rises_add d (sorted s) (rises_sorted s))
      (λ z h. let m = has_slot z more h in
      elim (was m.0 z m.1) [
        | inl e ↦ subst (λ w. Has w (add_due d (sorted s))) e (add_new d (sorted s))
        | inr t ↦ add_old z d (sorted s) (slot_has z s m.0 t)
      ])
      (λ z h. elim (has_add z d (sorted s) h) [
        | inl e ↦ slot_has z more x (new_here ∙ ap Some e)
        | inr t ↦ let m = has_slot z s t in slot_has z more m.0 (kept m.0 z m.1)
      ])

  pub more_apart : Distinct s → ((i : ℕ) → get_or s i None ≢ Some d) → Distinct more
  more_apart apart absent = λ i j y p q.
      elim (cases_eq i x) [
        | inl e ↦
            elim (cases_eq j x) [
              | inl f ↦ e ∙ sym f
              | inr nf ↦
                  let dy = same_Some d y (sym new_here ∙ ap (λ k. get_or more k None) (sym e) ∙ p) in
                  absurd (absent j (sym (get_or-set_other s x j (Some d) None nf) ∙ q ∙ ap Some (sym dy)))
            ]
        | inr ne ↦
            let pi = sym (get_or-set_other s x i (Some d) None ne) ∙ p in
            elim (cases_eq j x) [
              | inl f ↦
                  let dy = same_Some d y (sym new_here ∙ ap (λ k. get_or more k None) (sym f) ∙ q) in
                  absurd (absent i (pi ∙ ap Some (sym dy)))
              | inr nf ↦ apart i j y pi (sym (get_or-set_other s x j (Some d) None nf) ∙ q)
            ]
      ]

  pub one_less : count_by is_free s ≡ count_by is_free more + 1
  one_less =
      let f : Option Due → ℕ = λ o. cond (is_free o) 1 0 in
      let k = sum_by-set f s x (Some d) None inside in
      let e = ap f empty in
      omega (arith, k, e)

-- a pair that is there changes nothing
pub there_already : (ns : List Node) (d : Due) → (i : ℕ) × (pair_at ns i ≡ Some d) → sorted (pairs_of ns) ≡ add_due d (sorted (pairs_of ns))
there_already ns d m =
    let has : Has d (sorted (pairs_of ns)) = slot_has d (pairs_of ns) m.0 (map_get ns m.0 ∙ m.1) in
    same_sets _ _ (rises_sorted (pairs_of ns)) (rises_add d (sorted (pairs_of ns)) (rises_sorted (pairs_of ns)))
    (λ z h. add_old z d (sorted (pairs_of ns)) h)
    (λ z h. elim (has_add z d (sorted (pairs_of ns)) h) [
      | inl e ↦ subst (λ w. Has w (sorted (pairs_of ns))) e has
      | inr t ↦ t
    ])

-- a place that is emptied is one free place more
pub one_more : (s : List (Option Due)) (x : ℕ) (d : Due) → get_or s x None ≡ Some d → count_by is_free (set s x None) ≡ count_by is_free s + 1
one_more s x d at =
    let f : Option Due → ℕ = λ o. cond (is_free o) 1 0 in
    let inside = slot_in s x d at in
    let k = sum_by-set f s x None None inside in
    let e = ap f at in
    omega (arith, k, e)
