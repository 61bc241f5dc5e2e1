-- A walk along a bucket that takes the pairs of a tick out of it.
use Rattle.std.proofs.Common.{◌≡◌, ◌≢◌, ℕ, ◌+◌, ◌-◌, ◌<◌, ◌≤◌, ◌%◌, Bool, true, false, not, cond, nat_eq, count_by, List, [], ◌∷◌}
use Rattle.std.proofs.Common.{◌++◌, map, length, take, drop, get_or, set, nat_cmp, Option, Some, None, refl, sym, ap, ◌∙◌, subst, inl, inr, arith}
use Rattle.std.specs.List.{filter}
use Rattle.std.specs.List.Sorted.{IsPermutation, IsSortedByKey}
use Rattle.std.specs.Option.{option_map}
use Rattle.std.proofs.lemmas.Bool.{cases_eq}
use Rattle.std.proofs.lemmas.Bool.Decides.{nat_tests}
use Rattle.std.proofs.lemmas.List.{get_or-set_other, length-map, append_assoc, take-append-drop}
use Rattle.std.proofs.lemmas.List.Sorted.{IsNonDecreasingBy-from_sort}
use Rattle.sim_base.specs.declared.ids.ActorId.{ActorId}
use Rattle.agenda.specs.declared.due.Due.{Due}
use Rattle.agenda.specs.Dues.{due_at, without_tick, Rises}
use Rattle.agenda_wheel.specs.Kept.{is_free}
use Rattle.agenda_wheel.specs.Nodes.{nil, next_of, prev_of, head_of}
use Rattle.agenda_wheel.specs.Seen.{count_in, asks, asker}
use Rattle.agenda_wheel.specs.Slots.{sorted, Distinct}
use Rattle.agenda_wheel.specs.Wheel.{bucket, pair_at, pairs_of, tick_color, ByTick, Sound}
use Rattle.agenda_wheel.specs.declared.links.Node.{Node}
use Rattle.agenda_wheel.specs.declared.links.Side.TheVariants as side
use Rattle.agenda_wheel.proofs.Adding.{one_more}
use Rattle.agenda_wheel.proofs.Dropping.{still_apart, left, taken}
use Rattle.agenda_wheel.proofs.Freeing.{map_get}
use Rattle.agenda_wheel.proofs.Looking.{Fair, tick_ahead, tick_past, nothing_ahead, one_ahead, due_length, counts_tick, total_filter, ids}
use Rattle.agenda_wheel.proofs.Looking.{ids_rise, same_ids}
use Rattle.agenda_wheel.proofs.Seeing.{cons_some, Ahead, ahead_map, ahead_cut}
use Rattle.agenda_wheel.proofs.Totals.{total, total_map, total_permuted, is, same_counts, ascends_by}

-- 1 for the pair of the tick and of the actor
abbrev pub at_tick : ℕ → ℕ → Due → ℕ
at_tick t k d = cond (nat_eq d.tick t) (is k d.actor.0) 0

-- what was got and what is ahead make up the actors of the tick, and what is ahead is all that is left of them
abbrev pub Taking : ℕ → List Due → List Due → List ActorId → List Due → Type 0
Taking t dues now got ds =
    ((k : ℕ) → total (is k) (ids got) + total (at_tick t k) ds ≡ total (is k) (ids (due_at t dues)))
    × (total (λ (d : Due). count_in t (Some d)) ds ≡ length (due_at t now))

at_tick_of : (t k : ℕ) (d : Due) → at_tick t k d ≢ 0 → d.tick ≡ t
at_tick_of t k d ne =
    elim (cases_eq d.tick t) [
      | inl e ↦ e
      | inr o ↦ let f : nat_eq d.tick t ≡ false = grind (arith, nat_tests, o) in absurd (ne (rw f refl))
    ]

ids_total : (t k : ℕ) (dues : List Due) → total (is k) (ids (due_at t dues)) ≡ total (at_tick t k) dues
ids_total t k dues =
    total_map (is k) (λ (a : ActorId). a.0) (due_at t dues)
    ∙ total_map (λ (a : ActorId). is k a.0) (λ (d : Due). d.actor) (filter (λ (d : Due). nat_eq d.tick t) dues)
    ∙ total_filter (λ (d : Due). is k d.actor.0) (λ (d : Due). nat_eq d.tick t) dues

pub take_begin : (ns : List Node) (small : length ns ≤ nil) (apart : Distinct (pairs_of ns)) (ts : List ℕ) (t : ℕ) → ByTick ns ts
    → Ahead (next_of side.Tick ns) (pair_at ns) nil (head_of ts (t % 1024)) (length ns)
    (Taking t (sorted (pairs_of ns)) (sorted (pairs_of ns)) [])
take_begin ns small apart ts t l =
    ahead_map (next_of side.Tick ns) (pair_at ns) nil (head_of ts (t % 1024)) (length ns)
    (Fair (sorted (pairs_of ns)) (λ d. bucket d ≡ t % 1024)) (Taking t (sorted (pairs_of ns)) (sorted (pairs_of ns)) [])
    (λ ds fair. (
      λ k. let e = fair.0 (at_tick t k) (λ d ne. ap (λ m. m % 1024) (at_tick_of t k d ne)) in let f = ids_total t k (sorted (pairs_of ns)) in
          omega (arith, e, f),
      fair.0 (λ d. count_in t (Some d)) (λ d ne. ap (λ m. m % 1024) (counts_tick t d ne)) ∙ sym (due_length t (sorted (pairs_of ns))),
    ))
    (tick_ahead ns small apart ts (t % 1024) l)

-- ---- one node

-- n pairs of the tick have left
pub record Taken (t : ℕ) (s s' : List (Option Due)) (n : ℕ) : Type 0 where
  pub apart : Distinct s'
  pub left : without_tick t (sorted s') ≡ without_tick t (sorted s)
  pub fewer : length (due_at t (sorted s)) ≡ n + length (due_at t (sorted s'))
  pub free : count_by is_free s' ≡ count_by is_free s + n

none_taken : (t : ℕ) (s s' : List (Option Due)) → Distinct s → s' ≡ s → Taken t s s' 0
none_taken t s s' apart e =
    let f = ap (λ z. length (due_at t (sorted z))) e in
    let g = ap (count_by is_free) e in
    record {
      apart = subst Distinct (sym e) apart;
      left = ap (λ z. without_tick t (sorted z)) e;
      fewer = omega (arith, f);
      free =
          omega (arith, g);
    }

one_taken : (t x : ℕ) (d : Due) (s s' : List (Option Due)) → get_or s x None ≡ Some d → nat_eq d.tick t ≡ true → Distinct s → s' ≡ set s x None
    → Taken t s s' 1
one_taken t x d s s' at mine apart e =
    let f = ap (λ z. length (due_at t (sorted z))) e in
    let g = ap (count_by is_free) e in
    let h = taken s x d at apart (λ (y : Due). nat_eq y.tick t) mine in
    let m = one_more s x d at in
    let a = length-map (filter (λ (y : Due). nat_eq y.tick t) (sorted s)) (λ (y : Due). y.actor) in
    let b = length-map (filter (λ (y : Due). nat_eq y.tick t) (sorted (set s x None))) (λ (y : Due). y.actor) in
    record {
      apart = subst Distinct (sym e) (still_apart s x d at apart);
      left = ap (λ z. without_tick t (sorted z)) e ∙ left s x d at apart (λ (y : Due). not (nat_eq y.tick t)) (ap not mine);
      fewer = omega (arith, f, h, a, b);
      free = omega (arith, g, m);
    }

pub take_pairs : (t x : ℕ) (o : Option Due) (s s' : List (Option Due)) → get_or s x None ≡ o → Distinct s → s' ≡ cond (asks t o) (set s x None) s
    → Taken t s s' (length (asker t o))
take_pairs t x None s s' at apart e = none_taken t s s' apart e
take_pairs t x (Some d) s s' at apart e = told (nat_eq d.tick t) refl e
  where
    told : (b : Bool) → nat_eq d.tick t ≡ b → s' ≡ cond b (set s x None) s → Taken t s s' (length (cond b (d.actor ∷ []) []))
    told true mine f = one_taken t x d s s' at mine apart f
    told false mine f = none_taken t s s' apart f

total_ids : (k : ℕ) (xs ys : List ActorId) → total (is k) (ids (xs ++ ys)) ≡ total (is k) (ids xs) + total (is k) (ids ys)
total_ids k [] ys = omega arith
total_ids k (x ∷ xs) ys = let h = total_ids k xs ys in omega (arith, h)

other_seen : (t : ℕ) (dues now : List Due) (got : List ActorId) (d : Due) (ds : List Due) → nat_eq d.tick t ≡ false
    → Taking t dues now got (d ∷ ds) → Taking t dues now got ds
other_seen t dues now got d ds e p = (
  λ k. let f : at_tick t k d ≡ 0 = rw e refl in let q = p.0 k in omega (arith, f, q),
  let f : count_in t (Some d) ≡ 0 = rw e refl in let q = p.1 in omega (arith, f, q),
)

nothing_got : (t : ℕ) (dues now : List Due) (got : List ActorId) (ds : List Due) → Taking t dues now got ds → Taking t dues now (got ++ []) ds
nothing_got t dues now got ds p = (λ k. let f = total_ids k got [] in let q = p.0 k in omega (arith, f, q), p.1)

mine_seen : (t : ℕ) (dues now now' : List Due) (got : List ActorId) (d : Due) (ds : List Due) → nat_eq d.tick t ≡ true
    → length (due_at t now) ≡ 1 + length (due_at t now')
    → Taking t dues now got (d ∷ ds) → Taking t dues now' (got ++ d.actor ∷ []) ds
mine_seen t dues now now' got d ds e fewer p = (
  λ k. let f : at_tick t k d ≡ is k d.actor.0 = rw e refl in let g = total_ids k got (d.actor ∷ []) in let q = p.0 k in omega (arith, f, g, q),
  let f : count_in t (Some d) ≡ 1 = rw e refl in let q = p.1 in omega (arith, f, q, fewer),
)

module _ (t : ℕ) (dues : List Due) (got : List ActorId) (ns ns' : List Node) (ts hs ts' hs' : List ℕ) (s : Sound ns ts hs)
    (s' : Sound ns' ts' hs') (apart : Distinct (pairs_of ns)) (at left : ℕ) (at_in : at < length ns) where
  abbrev On : List Node → List ActorId → Type 0
  On m g = Ahead (next_of side.Tick m) (pair_at m) nil (next_of side.Tick ns at) (left - 1) (Taking t dues (sorted (pairs_of m)) g)

  stayed : ns' ≡ ns → On ns (got ++ []) → On ns' (got ++ [])
  stayed e a = subst (λ m. On m (got ++ [])) (sym e) a

  was_at : (y : ℕ) → y ≢ at → pairs_of ns' ≡ set (pairs_of ns) at None → pair_at ns' y ≡ pair_at ns y
  was_at y ne e = sym (map_get ns' y) ∙ ap (λ z. get_or z y None) e ∙ get_or-set_other (pairs_of ns) at y None None ne ∙ map_get ns y

  pub take_ahead : (o : Option Due) → pair_at ns at ≡ o → (asks t o ≡ false → ns' ≡ ns)
      → pairs_of ns' ≡ cond (asks t o) (set (pairs_of ns) at None) (pairs_of ns)
      → ((y : ℕ) → y ≢ nil → y ≢ prev_of side.Tick ns at → next_of side.Tick ns' y ≡ next_of side.Tick ns y)
      → Ahead (next_of side.Tick ns) (pair_at ns) nil at left (Taking t dues (sorted (pairs_of ns)) got) → (0 < left) × On ns' (got ++ asker t o)
  take_ahead None e same pairs links a =
      let k = one_ahead ns s.small apart (next_of side.Tick ns) at left (Taking t dues (sorted (pairs_of ns)) got)
      (Taking t dues (sorted (pairs_of ns)) (got ++ [])) at_in
      (λ ds p. nothing_got t dues (sorted (pairs_of ns)) got ds (subst (λ o. Taking t dues (sorted (pairs_of ns)) got (cons_some o ds)) e p)) a
      in
      (k.0, stayed (same refl) k.1)
  take_ahead (Some d) e same pairs links a = told (nat_eq d.tick t) refl same pairs
    where
      told : (b : Bool) → nat_eq d.tick t ≡ b → (b ≡ false → ns' ≡ ns) → pairs_of ns' ≡ cond b (set (pairs_of ns) at None) (pairs_of ns)
          → (0 < left) × On ns' (got ++ cond b (d.actor ∷ []) [])
      told false f stay now =
          let k = one_ahead ns s.small apart (next_of side.Tick ns) at left (Taking t dues (sorted (pairs_of ns)) got)
          (Taking t dues (sorted (pairs_of ns)) (got ++ [])) at_in
          (λ ds p. nothing_got t dues (sorted (pairs_of ns)) got ds (other_seen t dues (sorted (pairs_of ns)) got d ds f
          (subst (λ o. Taking t dues (sorted (pairs_of ns)) got (cons_some o ds)) e p))) a in
          (k.0, stayed (stay refl) k.1)
      told true f stay now =
          let one = one_taken t at d (pairs_of ns) (pairs_of ns') (map_get ns at ∙ e) f apart now in
          let fewer = one.fewer in
          let k = one_ahead ns s.small apart (next_of side.Tick ns) at left (Taking t dues (sorted (pairs_of ns)) got)
          (Taking t dues (sorted (pairs_of ns')) (got ++ d.actor ∷ [])) at_in
          (λ ds p. mine_seen t dues (sorted (pairs_of ns)) (sorted (pairs_of ns')) got d ds f fewer
          (subst (λ o. Taking t dues (sorted (pairs_of ns)) got (cons_some o ds)) e p)) a in (
            k.0,
            ahead_cut (next_of side.Tick ns) (prev_of side.Tick ns) (head_of ts) (tick_color ns) nil s.by_tick (bucket d)
                (tick_past ns nil s.small) (pair_at ns) at (left - 1) (next_of side.Tick ns') (pair_at ns')
                (Taking t dues (sorted (pairs_of ns')) (got ++ d.actor ∷ [])) (ap (option_map bucket) e) (tick_past ns' nil s'.small) links (λ y ne.
                was_at y ne now) k.1,
          )

-- ---- the end

none_due : (t : ℕ) (xs : List Due) → length (due_at t xs) ≡ 0 → without_tick t xs ≡ xs
none_due t [] e = refl
none_due t (x ∷ xs) e = told (nat_eq x.tick t) e (none_due t xs)
  where
    told : (b : Bool) → length (map (λ (d : Due). d.actor) (cond b (x ∷ filter (λ (d : Due). nat_eq d.tick t) xs)
        (filter (λ (d : Due). nat_eq d.tick t) xs))) ≡ 0
        → (length (due_at t xs) ≡ 0 → without_tick t xs ≡ xs) → cond (not b) (x ∷ without_tick t xs) (without_tick t xs) ≡ x ∷ xs
    told true f later = absurd (omega (arith, f))
    told false f later = ap (λ ys. x ∷ ys) (later f)

-- nothing of the tick is left, and all of its actors were got
pub record AllTaken (t : ℕ) (dues now : List Due) (got : List ActorId) : Type 0 where
  pub none : length (due_at t now) ≡ 0
  pub still : without_tick t now ≡ now
  pub all : (k : ℕ) → total (is k) (ids got) ≡ total (is k) (ids (due_at t dues))

pub take_end : (ns : List Node) (small : length ns ≤ nil) (apart : Distinct (pairs_of ns)) (t at left : ℕ) (dues : List Due) (got : List ActorId)
    → length ns ≤ at
    → Ahead (next_of side.Tick ns) (pair_at ns) nil at left (Taking t dues (sorted (pairs_of ns)) got)
    → AllTaken t dues (sorted (pairs_of ns)) got
take_end ns small apart t at left dues got h a =
    let p = nothing_ahead ns small apart (next_of side.Tick ns) at left (Taking t dues (sorted (pairs_of ns)) got) (tick_past ns) h a in
    record {
      none = sym p.1;
      still = none_due t (sorted (pairs_of ns)) (sym p.1);
      all = λ k. let q = p.0 k in omega (arith, q);
    }

pub take_sorted : (t : ℕ) (dues : List Due) (got inorder : List ActorId) → IsSortedByKey (λ (a : ActorId). a.0) nat_cmp inorder
    → IsPermutation got inorder → Rises dues
    → ((k : ℕ) → total (is k) (ids got) ≡ total (is k) (ids (due_at t dues))) → inorder ≡ due_at t dues
take_sorted t dues got inorder order same r all =
    same_ids inorder (due_at t dues)
    (same_counts (ids inorder) (ids (due_at t dues))
    (ascends_by (λ (a : ActorId). a.0) inorder (IsNonDecreasingBy-from_sort (λ (a : ActorId). a.0) inorder order))
    (ids_rise t dues r)
    (λ k.
    let e = all k in
    let f = total_permuted (λ (a : ActorId). is k a.0) got inorder same in
    let g = total_map (is k) (λ (a : ActorId). a.0) got in
    let h = total_map (is k) (λ (a : ActorId). a.0) inorder in
    omega (arith, e, f, g, h)))

-- ---- what was got stands behind what was there

pub drop_own : (xs ys : List ActorId) → drop (length xs) (xs ++ ys) ≡ ys
drop_own [] ys = refl
drop_own (x ∷ xs) ys = drop_own xs ys

pub take_own : (xs ys : List ActorId) → take (length xs) (xs ++ ys) ≡ xs
take_own [] ys = refl
take_own (x ∷ xs) ys = ap (λ zs. x ∷ zs) (take_own xs ys)

pub drop_more : (first list more : List ActorId) → list ≡ first ++ drop (length first) list
    → drop (length first) (list ++ more) ≡ drop (length first) list ++ more
drop_more first list more e =
    ap (λ z. drop (length first) (z ++ more)) e ∙ ap (drop (length first)) (append_assoc first (drop (length first) list) more)
    ∙ drop_own first (drop (length first) list ++ more)

pub got_more : (first list more : List ActorId) → list ≡ first ++ drop (length first) list
    → list ++ more ≡ first ++ drop (length first) (list ++ more)
got_more first list more e =
    ap (λ z. z ++ more) e ∙ append_assoc first (drop (length first) list) more ∙ sym (ap (λ z. first ++ z) (drop_more first list more e))

-- a sort of what was got gives the actors in order
pub all_got : (t : ℕ) (dues : List Due) (first list final : List ActorId) → list ≡ first ++ drop (length first) list
    → take (length first) final ≡ take (length first) list
    → drop (length first) final ≡ due_at t dues → final ≡ first ++ due_at t dues
all_got t dues first list final e before behind =
    sym (take-append-drop (length first) final) ∙ ap (λ z. z ++ drop (length first) final) (before ∙ ap (take (length first)) e
    ∙ take_own first (drop (length first) list)) ∙ ap (λ z. first ++ z) behind

pub drop_self : (xs : List ActorId) → drop (length xs) xs ≡ []
drop_self [] = refl
drop_self (x ∷ xs) = drop_self xs

pub got_none : (xs : List ActorId) → xs ≡ xs ++ drop (length xs) xs
got_none [] = refl
got_none (x ∷ xs) = ap (λ ys. x ∷ ys) (got_none xs)
