-- What a walk along a list sees is what the list has.
use Rattle.std.proofs.Common.{◌≡◌, ◌≢◌, ℕ, zero, suc, ◌+◌, ◌-◌, ◌<◌, ◌≤◌, List, [], ◌∷◌, length, get_or, set}
use Rattle.std.proofs.Common.{Option, Some, None, refl, sym, ap, ◌∙◌, subst, inl, inr, arith}
use Rattle.std.proofs.lemmas.Bool.{cases_eq}
use Rattle.std.proofs.lemmas.Option.{none-some}
use Rattle.std.proofs.lemmas.List.{get_or-set_same, get_or-set_other, set_past, get_or_past, set-get_or}
use Rattle.agenda.specs.declared.due.Due.{Due}
use Rattle.agenda_wheel.specs.Linked.{Linked}
use Rattle.agenda_wheel.specs.Slots.{sorted, Distinct}
use Rattle.agenda_wheel.proofs.Sets.{Has, has_slot}
use Rattle.agenda_wheel.proofs.Dropping.{whole, not_there, total_add}
use Rattle.agenda_wheel.proofs.Totals.{total}
use Rattle.agenda_wheel.proofs.Walking.{visited, later, of_list, ended, stops}

abbrev pub cons_some : Option Due → List Due → List Due
cons_some None ds = ds
cons_some (Some d) ds = d ∷ ds

-- the pairs of so many nodes from one on
abbrev pub seen : (ℕ → ℕ) → (ℕ → Option Due) → ℕ → ℕ → List Due
seen next pair at zero = []
seen next pair at (suc n) = cons_some (pair at) (seen next pair (next at) n)

pub shift : (next : ℕ → ℕ) (at i : ℕ) → visited next (next at) i ≡ visited next at (suc i)
shift next at zero = refl
shift next at (suc i) = ap next (shift next at i)

total_none : (g : Due → ℕ) (xs : List Due) → ((y : Due) → Has y xs → g y ≡ 0) → total g xs ≡ 0
total_none g [] h = refl
total_none g (x ∷ xs) h =
    let e = h x (inl refl) in
    let f = total_none g xs (λ y t. h y (inr t)) in
    omega (arith, e, f)

erased_here : (s : List (Option Due)) (a : ℕ) → get_or (set s a None) a None ≡ None
erased_here s a =
    elim (cases_eq (suc a - length s) 0) [
      | inl e ↦ get_or-set_same s a None None (omega (arith, e))
      | inr e ↦ ap (λ t. get_or t a None) (set_past s a None (omega (arith, e))) ∙ get_or_past s a None (omega (arith, e))
    ]

erased_was : (s : List (Option Due)) (a x : ℕ) (d : Due) → get_or (set s a None) x None ≡ Some d → (x ≢ a) × (get_or s x None ≡ Some d)
erased_was s a x d h =
    let ne : x ≢ a = λ e. none-some d (sym (erased_here s a) ∙ ap (λ k. get_or (set s a None) k None) (sym e) ∙ h) in
    (ne, sym (get_or-set_other s a x None None ne) ∙ h)

module _ (next : ℕ → ℕ) (pair : ℕ → Option Due) (g : Due → ℕ) where
  pub seen_total : (n at : ℕ) (s : List (Option Due)) → Distinct s
      → ((i : ℕ) → i < n → get_or s (visited next at i) None ≡ pair (visited next at i))
      → ((i j : ℕ) → i < j → j < n → visited next at i ≢ visited next at j)
      → ((x : ℕ) (d : Due) → get_or s x None ≡ Some d → g d ≢ 0 → (i : ℕ) × (i < n) × (visited next at i ≡ x))
      → total g (seen next pair at n) ≡ total g (sorted s)
  seen_total zero at s apart here differ all =
      sym (total_none g (sorted s) (λ y h. let m = has_slot y s h in
      elim (cases_eq (g y) 0) [
        | inl e ↦ e
        | inr ne ↦ let k = all m.0 y m.1 ne in absurd (omega (arith, k.1))
      ]))
  seen_total (suc m) at s apart here differ all =
      told (pair at) refl
      (seen_total m (next at) (set s at None)
      (λ x y d p q. apart x y d (erased_was s at x d p).1 (erased_was s at y d q).1)
      (λ i p.
      let ne : visited next at (suc i) ≢ at = λ e. differ zero (suc i) (omega arith) (omega (arith, p)) (sym e) in
      ap (λ k. get_or (set s at None) k None) (shift next at i) ∙ get_or-set_other s at (visited next at (suc i)) None None ne
      ∙ here (suc i) (omega (arith, p)) ∙ ap pair (sym (shift next at i)))
      (λ i j p q e. differ (suc i) (suc j) (omega (arith, p)) (omega (arith, q)) (sym (shift next at i) ∙ e ∙ shift next at j))
      (λ x d h ne.
      let w = erased_was s at x d h in
      let k = all x d w.1 ne in
      told_place x k.0 k.1 k.2 w.0))
    where
      told_place : (x i : ℕ) → i < suc m → visited next at i ≡ x → x ≢ at → (j : ℕ) × (j < m) × (visited next (next at) j ≡ x)
      told_place x zero p e ne = absurd (ne (sym e))
      told_place x (suc i) p e ne = (i, omega (arith, p), shift next at i ∙ e)

      told : (o : Option Due) → pair at ≡ o → total g (seen next pair (next at) m) ≡ total g (sorted (set s at None))
          → total g (cons_some o (seen next pair (next at) m)) ≡ total g (sorted s)
      told None e rest =
          let slot : get_or s at None ≡ None = here zero (omega arith) ∙ e in
          rest ∙ ap (λ t. total g (sorted t)) (ap (λ o. set s at o) (sym slot) ∙ set-get_or s at None)
      told (Some d) e rest =
          let slot : get_or s at None ≡ Some d = here zero (omega arith) ∙ e in
          ap (λ k. g d + k) rest ∙ sym (ap (total g) (whole s at d slot apart)
          ∙ total_add g d (sorted (set s at None)) (not_there s at d slot apart))

-- from a node on, the way ends in so many steps, and what it sees is as told
pub record Ahead (next : ℕ → ℕ) (pair : ℕ → Option Due) (nil at left : ℕ) (P : List Due → Type 0) : Type 0 where
  pub steps : ℕ
  pub few : steps ≤ left
  pub ends : visited next at steps ≡ nil
  pub rest : P (seen next pair at steps)

pub ahead_map : (next : ℕ → ℕ) (pair : ℕ → Option Due) (nil at left : ℕ) (P Q : List Due → Type 0) → ((ds : List Due) → P ds → Q ds)
    → Ahead next pair nil at left P → Ahead next pair nil at left Q
ahead_map next pair nil at left P Q f a = record { steps = a.steps; few = a.few; ends = a.ends; rest = f (seen next pair at a.steps) a.rest }

pub ahead_step : (next : ℕ → ℕ) (pair : ℕ → Option Due) (nil at left : ℕ) (P : List Due → Type 0) → at ≢ nil → Ahead next pair nil at left P
    → (0 < left) × Ahead next pair nil (next at) (left - 1) (λ ds. P (cons_some (pair at) ds))
ahead_step next pair nil at left P real a = told a.steps a.few a.ends a.rest
  where
    told : (n : ℕ) → n ≤ left → visited next at n ≡ nil → P (seen next pair at n) → (0 < left)
        × Ahead next pair nil (next at) (left - 1) (λ ds. P (cons_some (pair at) ds))
    told zero f e r = absurd (real e)
    told (suc n) f e r = (omega (arith, f), record { steps = n; few = omega (arith, f); ends = shift next at n ∙ e; rest = r })

-- what is seen stands at a node of the walk
pub seen_has : (next : ℕ → ℕ) (pair : ℕ → Option Due) (n at : ℕ) (y : Due) → Has y (seen next pair at n) → (i : ℕ) × (i < n)
    × (pair (visited next at i) ≡ Some y)
seen_has next pair zero at y h = absurd h
seen_has next pair (suc n) at y h =
    told (pair at) refl (λ t. let m = seen_has next pair n (next at) y t in (
      suc m.0,
      omega (arith, m.1),
      ap pair (sym (shift next at m.0))
          ∙ m.2,
    )) h
  where
    told : (o : Option Due) → pair at ≡ o → (Has y (seen next pair (next at) n) → (i : ℕ) × (i < suc n) × (pair (visited next at i) ≡ Some y))
        → Has y (cons_some o (seen next pair (next at) n)) → (i : ℕ) × (i < suc n) × (pair (visited next at i) ≡ Some y)
    told None e later h = later h
    told (Some d) e later h = elim h [ inl same ↦ (zero, omega arith, e ∙ ap Some same) | inr t ↦ later t ]

-- past the end nothing is seen
pub seen_nil : (next : ℕ → ℕ) (pair : ℕ → Option Due) (nil : ℕ) → next nil ≡ nil → pair nil ≡ None → (n : ℕ) → seen next pair nil n ≡ []
seen_nil next pair nil stays none zero = refl
seen_nil next pair nil stays none (suc n) = rw none (ap (λ k. seen next pair k n) stays ∙ seen_nil next pair nil stays none n)

pub seen_past : (next : ℕ → ℕ) (pair : ℕ → Option Due) (nil at : ℕ) → next nil ≡ nil → pair nil ≡ None → next at ≡ nil → pair at ≡ None → (n : ℕ)
    → seen next pair at n ≡ []
seen_past next pair nil at stays none to empty zero = refl
seen_past next pair nil at stays none to empty (suc n) = rw empty (ap (λ k. seen next pair k n) to ∙ seen_nil next pair nil stays none n)

-- a walk sees no change of what is not on its way
pub same_way : (next next' : ℕ → ℕ) (n at : ℕ) → ((i : ℕ) → next' (visited next at i) ≡ next (visited next at i))
    → visited next' at n ≡ visited next at n
same_way next next' zero at h = refl
same_way next next' (suc n) at h = ap next' (same_way next next' n at h) ∙ h n

pub same_seen : (next next' : ℕ → ℕ) (pair pair' : ℕ → Option Due) (n at : ℕ)
    → ((i : ℕ) → (next' (visited next at i) ≡ next (visited next at i)) × (pair' (visited next at i) ≡ pair (visited next at i)))
    → seen next' pair' at n ≡ seen next pair at n
same_seen next next' pair pair' zero at h = refl
same_seen next next' pair pair' (suc n) at h =
    let e = (h zero).0 in
    let f = (h zero).1 in
    ap (λ o. cons_some o (seen next' pair' (next' at) n)) f ∙ ap (λ k. cons_some (pair at) (seen next' pair' k n)) e
    ∙ ap (cons_some (pair at)) (same_seen next next' pair pair' n (next at) (λ i. rw (shift next at i) (h (suc i))))

module _ (next prev head : ℕ → ℕ) (color : ℕ → Option ℕ) (nil : ℕ) (l : Linked next prev head color nil) (c : ℕ) (stays : next nil ≡ nil)
    (pair : ℕ → Option Due) where
  -- from the head on all of the list is seen
  pub ahead_start : (s : List (Option Due)) (size : ℕ) → Distinct s → ((x : ℕ) → get_or s x None ≡ pair x)
      → ((x : ℕ) → color x ≡ Some c → x < size)
      → Ahead next pair nil (head c) size (λ ds. ((g : Due → ℕ) → ((x : ℕ) (d : Due) → pair x ≡ Some d → g d ≢ 0 → color x ≡ Some c)
      → total g ds ≡ total g (sorted s))
      × ((y : Due) → Has y ds → (x : ℕ) × (pair x ≡ Some y) × (color x ≡ Some c)))
  ahead_start s size apart same inside =
      let m = stops next prev head color nil l c stays size inside in
      record {
        steps = m.0;
        few = m.1;
        ends = m.2;
        rest = (
          λ g of. seen_total next pair g m.0 (head c) s apart
              (λ i p. same (visited next (head c) i))
              (λ i j p q. later next prev head color nil l c stays i j p (m.3 j q))
              (λ x d h ne. ended next prev head color nil l c stays m.0 x m.2 (of x d (sym (same x) ∙ h) ne)),
          λ y h.
              let k = seen_has next pair m.0 (head c) y h in
              (visited next (head c) k.0, k.2, of_list next prev head color nil l c stays k.0 (m.3 k.0 k.1)),
        );
      }

  -- what lies beyond a node of the list is another
  beyond : (at : ℕ) → color at ≡ Some c → (i : ℕ) → visited next (next at) i ≢ nil → (color (visited next (next at) i) ≡ Some c)
      × (l.rank at < l.rank (visited next (next at) i))
  beyond at here zero ne = climb at here ne
    where
      climb : (y : ℕ) → color y ≡ Some c → next y ≢ nil → (color (next y) ≡ Some c) × (l.rank y < l.rank (next y))
      climb y h real =
          let a = l.after y c h real in
          let b = l.before (next y) c a.0 (λ z. let k = l.below y c h in let q = sym a.1 ∙ z in omega (arith, k, q)) in
          let e = ap l.rank a.1 in
          (a.0, omega (arith, b.2, e))
  beyond at here (suc i) ne =
      let k = beyond at here i (λ z. ne (ap next z ∙ stays)) in
      let a = l.after (visited next (next at) i) c k.0 ne in
      let b = l.before (next (visited next (next at) i)) c a.0 (λ z. let m = l.below (visited next (next at) i) c k.0 in let q = sym a.1
      ∙ z in omega (arith, m, q)) in
      let e = ap l.rank a.1 in
      (a.0, omega (arith, b.2, e, k.1))

  -- a node that leaves changes nothing of the way beyond it
  pub ahead_cut : (at left : ℕ) (next' : ℕ → ℕ) (pair' : ℕ → Option Due) (P : List Due → Type 0) → color at ≡ Some c → next' nil ≡ nil
      → ((y : ℕ) → y ≢ nil → y ≢ prev at → next' y ≡ next y) → ((y : ℕ) → y ≢ at → pair' y ≡ pair y)
      → Ahead next pair nil (next at) left P → Ahead next' pair' nil (next at) left P
  ahead_cut at left next' pair' P here stays' nexts pairs a =
      let kept : (i : ℕ) → (next' (visited next (next at) i) ≡ next (visited next (next at) i))
      × (pair' (visited next (next at) i) ≡ pair (visited next (next at) i)) =
      λ i. elim (cases_eq (visited next (next at) i) nil) [
        | inl e ↦ (
          ap next' e ∙ stays' ∙ sym stays ∙ ap next (sym e),
          pairs (visited next (next at) i) (λ z. let k = l.below at c here in
              omega (arith, k, z, e)),
        )
        | inr ne ↦
            let b = beyond at here i ne in
            let not_at : visited next (next at) i ≢ at = λ z. let r = ap l.rank z in absurd (omega (arith, b.1, r)) in
            let not_prev : visited next (next at) i ≢ prev at = λ z.
            let q = l.before at c here (λ w. ne (z ∙ w)) in
            let r = ap l.rank z in
            omega (arith, b.1, q.2, r) in
            (nexts (visited next (next at) i) ne not_prev, pairs (visited next (next at) i) not_at)
      ] in
      record {
        steps = a.steps;
        few = a.few;
        ends = same_way next next' a.steps (next at) (λ i. (kept i).0) ∙ a.ends;
        rest = subst P (sym (same_seen next next' pair pair' a.steps (next at) kept)) a.rest;
      }
