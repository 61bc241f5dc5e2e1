-- One pair goes.
use Rattle.std.proofs.Common.{◌≡◌, ◌≢◌, ◌⊎◌, ℕ, suc, ◌+◌, ◌<◌, ◌≤◌, Bool, true, false, not, cond, nat_eq, nat_lt, count_by, List, []}
use Rattle.std.proofs.Common.{◌∷◌, map, length, get_or, set, Option, Some, None, refl, sym, ap, ◌∙◌, subst, inl, inr, arith}
use Rattle.std.specs.List.{filter}
use Rattle.std.proofs.lemmas.Bool.{cases_eq}
use Rattle.std.proofs.lemmas.Bool.Decides.{nat_tests}
use Rattle.std.proofs.lemmas.Option.{none-some, same_Some}
use Rattle.std.proofs.lemmas.List.{get_or-set_same, get_or-set_other, get_or_past, length-map, set_past}
use Rattle.std.proofs.lemmas.List.Sums.{sum_by-set}
use Rattle.agenda_wheel.specs.Kept.{is_free}
use Rattle.sim_base.specs.declared.ids.ActorId.{ActorId}
use Rattle.agenda.specs.declared.due.Due.{Due}
use Rattle.agenda.specs.Dues.{comes_before, add_due, without_actor, ticks_of}
use Rattle.agenda.proofs.Order.{rises_add, rises_filter}
use Rattle.agenda_wheel.specs.Slots.{sorted, Distinct}
use Rattle.agenda_wheel.specs.Nodes.{head_of}
use Rattle.agenda_wheel.specs.Wheel.{pair_at, list_for, actor_color, Sound}
use Rattle.agenda_wheel.specs.declared.links.Node.{Node}
use Rattle.agenda_wheel.proofs.Linking.{some_head}
use Rattle.agenda_wheel.proofs.Freeing.{pair_in, map_get}
use Rattle.agenda_wheel.proofs.Totals.{total}
use Rattle.agenda_wheel.proofs.Sets.{Has, same_due, same_sets, has_add, add_new, add_old, has_filter, filter_has, count_add, rises_sorted}
use Rattle.agenda_wheel.proofs.Sets.{has_slot, slot_has}

-- one more in the sum
pub total_add : (g : Due → ℕ) (d : Due) (xs : List Due) → ¬ Has d xs → total g (add_due d xs) ≡ g d + total g xs
total_add g d [] out = refl
total_add g d (x ∷ xs) out = told (comes_before d x) refl (comes_before x d) refl (total_add g d xs (λ h. out (inr h)))
  where
    told : (b : Bool) → comes_before d x ≡ b → (c : Bool) → comes_before x d ≡ c → total g (add_due d xs) ≡ g d + total g xs
        → total g (cond b (d ∷ x ∷ xs) (cond c (x ∷ add_due d xs) (x ∷ xs))) ≡ g d + total g (x ∷ xs)
    told true f c e more = refl
    told false f true e more = omega (arith, more)
    told false f false e more = absurd (out (inl (same_due d x f e)))

pub slot_in : (s : List (Option Due)) (x : ℕ) (d : Due) → get_or s x None ≡ Some d → x < length s
slot_in s x d h = told (nat_lt x (length s)) refl
  where
    told : (b : Bool) → nat_lt x (length s) ≡ b → x < length s
    told true e = grind (arith, nat_tests)
    told false e = let past : length s ≤ x = grind (arith, nat_tests) in absurd (none-some d (sym (get_or_past s x None past) ∙ h))

module _ (s : List (Option Due)) (x : ℕ) (d : Due) (at : get_or s x None ≡ Some d) (apart : Distinct s) where
  abbrev less : List (Option Due)
  less = set s x None

  gone : get_or less x None ≡ None
  gone = get_or-set_same s x None None (slot_in s x d at)

  differs : (i : ℕ) (y : Due) → get_or less i None ≡ Some y → i ≢ x
  differs i y h e = none-some y (sym gone ∙ ap (λ k. get_or less k None) (sym e) ∙ h)

  was : (i : ℕ) (y : Due) → get_or less i None ≡ Some y → get_or s i None ≡ Some y
  was i y h = sym (get_or-set_other s x i None None (differs i y h)) ∙ h

  pub still_apart : Distinct less
  still_apart = λ i j y p q. apart i j y (was i y p) (was j y q)

  pub has_was : (y : Due) → Has y (sorted less) → Has y (sorted s)
  has_was y h = let m = has_slot y less h in slot_has y s m.0 (was m.0 y m.1)

  pub has_still : (y : Due) → Has y (sorted s) → (d ≡ y) ⊎ Has y (sorted less)
  has_still y h =
      let m = has_slot y s h in
      elim (cases_eq m.0 x) [
        | inl e ↦ inl (same_Some d y (sym at ∙ ap (λ k. get_or s k None) (sym e) ∙ m.1))
        | inr ne ↦ inr (slot_has y less m.0 (get_or-set_other s x m.0 None None ne ∙ m.1))
      ]

  pub not_there : ¬ Has d (sorted less)
  not_there h = let m = has_slot d less h in differs m.0 d m.1 (apart m.0 x d (was m.0 d m.1) at)

  -- what does not ask for the pair sees no change
  pub left : (p : Due → Bool) → p d ≡ false → filter p (sorted less) ≡ filter p (sorted s)
  left p out =
      same_sets _ _ (rises_filter p (sorted less) (rises_sorted less)) (rises_filter p (sorted s) (rises_sorted s))
      (λ z h. let m = has_filter p z (sorted less) h in filter_has p z (sorted s) (has_was z m.0) m.1)
      (λ z h. let m = has_filter p z (sorted s) h in
      elim (has_still z m.0) [
        | inl e ↦ cc (sym out ∙ ap p e ∙ m.1)
        | inr t ↦ filter_has p z (sorted less) t m.1
      ])

  pub whole : sorted s ≡ add_due d (sorted less)
  whole =
      same_sets _ _ (rises_sorted s) (rises_add d (sorted less) (rises_sorted less))
      (λ z h. elim (has_still z h) [
        | inl e ↦ subst (λ w. Has w (add_due d (sorted less))) e (add_new d (sorted less))
        | inr t ↦ add_old z d (sorted less) t
      ])
      (λ z h. elim (has_add z d (sorted less) h) [
        | inl e ↦ subst (λ w. Has w (sorted s)) e (slot_has d s x at)
        | inr t ↦ has_was z t
      ])

  pub taken : (q : Due → Bool) → q d ≡ true → length (filter q (sorted s)) ≡ suc (length (filter q (sorted less)))
  taken q e = ap (λ ds. length (filter q ds)) whole ∙ count_add q d (sorted less) e not_there

-- nothing that passes, nothing changes
pub filter_all : (p : Due → Bool) (xs : List Due) → ((y : Due) → Has y xs → p y ≡ true) → filter p xs ≡ xs
filter_all p [] h = refl
filter_all p (x ∷ xs) h = rw (h x (inl refl)) (ap (λ ys. x ∷ ys) (filter_all p xs (λ y t. h y (inr t))))

pub filter_none : (p : Due → Bool) (xs : List Due) → ((y : Due) → Has y xs → p y ≡ false) → filter p xs ≡ []
filter_none p [] h = refl
filter_none p (x ∷ xs) h = rw (h x (inl refl)) (filter_none p xs (λ y t. h y (inr t)))

empty : (xs : List ℕ) → length xs ≡ 0 → xs ≡ []
empty [] e = refl
empty (x ∷ xs) e = absurd (omega (arith, e))

-- ---- in the wheel

pub suc_same : (m n : ℕ) → Some (m + 1) ≡ Some (n + 1) → m ≡ n
suc_same m n e = let f = same_Some (m + 1) (n + 1) e in omega (arith, f)

lt_true : (x n : ℕ) → x < n → nat_lt x n ≡ true
lt_true x n h = grind (arith, nat_tests)

pub color_is : (ns : List Node) (x : ℕ) (d : Due) → pair_at ns x ≡ Some d → actor_color ns x ≡ Some (d.actor.0 + 1)
color_is ns x d h =
    ap (λ k. cond k (Some (list_for (pair_at ns x))) None) (lt_true x (length ns) (pair_in ns x d h)) ∙ ap (λ o. Some (list_for o)) h

module _ (ns : List Node) (ts hs : List ℕ) (a : ℕ) (s : Sound ns ts hs) where
  -- the head of the list of an actor has a pair of that actor
  pub head_pair : (d : Due) → pair_at ns (head_of hs (a + 1)) ≡ Some d → d.actor.0 ≡ a
  head_pair d h =
      let b = pair_in ns (head_of hs (a + 1)) d h in
      let k = s.by_actor.heads (a + 1) (λ e. omega (arith, e, b, s.small)) in
      suc_same d.actor.0 a (sym (color_is ns (head_of hs (a + 1)) d h) ∙ k.0)

  -- a head without a pair: the actor has none
  none_of : pair_at ns (head_of hs (a + 1)) ≡ None → (y : Due) → Has y (sorted (map (λ (n : Node). n.pair) ns)) → y.actor.0 ≢ a
  none_of none y h e =
      let m = has_slot y (map (λ (n : Node). n.pair) ns) h in
      let p : pair_at ns m.0 ≡ Some y = sym (map_get ns m.0) ∙ m.1 in
      let c : actor_color ns m.0 ≡ Some (a + 1) = color_is ns m.0 y p ∙ ap (λ k. Some (k + 1)) e in
      let ne = some_head _ _ _ _ _ s.by_actor m.0 (a + 1) c in
      let k = (s.by_actor.heads (a + 1) ne).0 in
      told (nat_lt (head_of hs (a + 1)) (length ns)) k
    where
      told : (b : Bool) → cond b (Some (list_for (pair_at ns (head_of hs (a + 1))))) None ≡ Some (a + 1) → ⊥
      told true k =
          let f = same_Some (list_for (pair_at ns (head_of hs (a + 1)))) (a + 1) k in
          let g : 0 ≡ a + 1 = ap list_for (sym none) ∙ f in
          absurd (omega (arith, g))
      told false k = none-some (a + 1) k

  pub all_left : pair_at ns (head_of hs (a + 1)) ≡ None → without_actor (record { 0 = a }) (sorted (map (λ (n : Node). n.pair) ns)) ≡ sorted
      (map (λ (n : Node). n.pair) ns)
  all_left none = filter_all _ _ (λ y h. let ne = none_of none y h in grind (arith, nat_tests, ne))

  pub none_left : pair_at ns (head_of hs (a + 1)) ≡ None → length (ticks_of (record { 0 = a }) (sorted (map (λ (n : Node). n.pair) ns))) ≡ 0
  none_left none =
      let e : filter (λ (d : Due). nat_eq d.actor.0 a) (sorted (map (λ (n : Node). n.pair) ns)) ≡ [] =
      filter_none _ _ (λ y h. let ne = none_of none y h in grind (arith, nat_tests, ne)) in
      length-map (filter (λ (d : Due). nat_eq d.actor.0 a) (sorted (map (λ (n : Node). n.pair) ns))) (λ (d : Due). d.tick) ∙ ap length e

  pub beyond_left : length hs ≤ a + 1 → without_actor (record { 0 = a }) (sorted (map (λ (n : Node). n.pair) ns)) ≡ sorted
      (map (λ (n : Node). n.pair) ns)
  beyond_left past = filter_all _ _ (λ y h. let m = has_slot y (map (λ (n : Node). n.pair) ns) h in let k = s.known m.0 y (sym (map_get ns m.0)
      ∙ m.1) in let ne : y.actor.0 ≢ a = λ e. omega (arith, e, k, past) in grind (arith, nat_tests, ne))

  pub beyond_none : length hs ≤ a + 1 → length (ticks_of (record { 0 = a }) (sorted (map (λ (n : Node). n.pair) ns))) ≡ 0
  beyond_none past =
      let e : filter (λ (d : Due). nat_eq d.actor.0 a) (sorted (map (λ (n : Node). n.pair) ns)) ≡ [] =
      filter_none _ _ (λ y h. let m = has_slot y (map (λ (n : Node). n.pair) ns) h in let k = s.known m.0 y (sym (map_get ns m.0)
      ∙ m.1) in let ne : y.actor.0 ≢ a = λ e. omega (arith, e, k, past) in grind (arith, nat_tests, ne)) in
      length-map (filter (λ (d : Due). nat_eq d.actor.0 a) (sorted (map (λ (n : Node). n.pair) ns))) (λ (d : Due). d.tick) ∙ ap length e

  pub beyond_ticks : length hs ≤ a + 1 → ticks_of (record { 0 = a }) (sorted (map (λ (n : Node). n.pair) ns)) ≡ []
  beyond_ticks past = empty (ticks_of (record { 0 = a }) (sorted (map (λ (n : Node). n.pair) ns))) (beyond_none past)

-- ---- one step of the loop

module _ (ns : List Node) (ts hs : List ℕ) (a : ActorId) (d : Due) (s : Sound ns ts hs) (apart : Distinct (map (λ (n : Node). n.pair) ns))
    (at : pair_at ns (head_of hs (a.0 + 1)) ≡ Some d) where
  abbrev slots : List (Option Due)
  slots = map (λ (n : Node). n.pair) ns

  abbrev x : ℕ
  x = head_of hs (a.0 + 1)

  slot : get_or slots x None ≡ Some d
  slot = map_get ns x ∙ at

  theirs : nat_eq d.actor.0 a.0 ≡ true
  theirs = let e = head_pair ns ts hs a.0 s d at in grind (arith, nat_tests, e)

  pub step_apart : Distinct (set slots x None)
  step_apart = still_apart slots x d slot apart

  pub step_left : without_actor a (sorted (set slots x None)) ≡ without_actor a (sorted slots)
  step_left = left slots x d slot apart (λ e. not (nat_eq e.actor.0 a.0)) (ap not theirs)

  pub step_count : length (ticks_of a (sorted slots)) ≡ length (ticks_of a (sorted (set slots x None))) + 1
  step_count =
      let e = taken slots x d slot apart (λ e. nat_eq e.actor.0 a.0) theirs in
      omega (
        arith,
        e,
        length-map (filter (λ (e : Due). nat_eq e.actor.0 a.0) (sorted slots)) (λ (e : Due). e.tick),
        length-map (filter (λ (e : Due). nat_eq e.actor.0 a.0) (sorted (set slots x None))) (λ (e : Due). e.tick),
      )

at_most : (b : Bool) → cond b 1 0 ≤ 1
at_most true = omega arith
at_most false = omega arith

-- a place that is emptied is free, if it was not before
pub more_free : (s : List (Option Due)) (place : ℕ) → count_by is_free s ≤ count_by is_free (set s place None)
more_free s place = told (nat_lt place (length s)) refl
  where
    told : (b : Bool) → nat_lt place (length s) ≡ b → count_by is_free s ≤ count_by is_free (set s place None)
    told true e =
        let inside : place < length s = grind (arith, nat_tests) in
        let k = sum_by-set (λ o. cond (is_free o) 1 0) s place None None inside in
        let m : cond (is_free (get_or s place None)) 1 0 ≤ 1 = at_most (is_free (get_or s place None)) in
        omega (arith, k, m)
    told false e =
        let past : length s ≤ place = grind (arith, nat_tests) in
        rw (set_past s place None past) (omega arith)
