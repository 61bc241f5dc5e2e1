-- The loops that walk along a bucket, or along the list of an actor, and change nothing.
use Rattle.std.proofs.Common.{◌≡◌, ◌≢◌, ℕ, ◌+◌, ◌-◌, ◌<◌, ◌≤◌, ◌%◌, Bool, true, false, cond, nat_eq, min, List, [], ◌∷◌}
use Rattle.std.proofs.Common.{◌++◌, map, length, get_or, nat_cmp, Option, Some, None, refl, sym, ap, ◌∙◌, subst, inl, inr, arith}
use Rattle.std.specs.List.{filter}
use Rattle.std.specs.List.Sorted.{IsPermutation, IsSorted}
use Rattle.std.proofs.lemmas.List.Sorted.{IsNonDecreasingBy-from_sort}
use Rattle.std.specs.Option.{option_map}
use Rattle.std.proofs.lemmas.Bool.{cases_eq}
use Rattle.std.proofs.lemmas.Bool.Decides.{nat_tests}
use Rattle.std.proofs.lemmas.Option.{none-some, same_Some}
use Rattle.std.proofs.lemmas.List.{get_or_past, get_or_default, length-map}
use Rattle.sim_base.specs.declared.ids.ActorId.{ActorId}
use Rattle.agenda.specs.declared.due.Due.{Due}
use Rattle.agenda.specs.Dues.{comes_before, due_at, ticks_of, least, IsBelow, Rises}
use Rattle.agenda_wheel.specs.Kept.{in_bucket}
use Rattle.agenda_wheel.specs.Nodes.{nil, no_node, node_of, next_of, prev_of, head_of}
use Rattle.agenda_wheel.specs.Seen.{count_in, tick_in, lesser}
use Rattle.agenda_wheel.specs.Slots.{sorted, Distinct}
use Rattle.agenda_wheel.specs.Wheel.{bucket, pair_at, pairs_of, tick_color, actor_color, ByTick, ByActor}
use Rattle.agenda_wheel.specs.declared.links.Node.{Node}
use Rattle.agenda_wheel.specs.declared.links.Side.TheVariants as side
use Rattle.agenda_wheel.proofs.Dropping.{color_is, suc_same}
use Rattle.agenda_wheel.proofs.Firsts.{none_least, least_at, in_has, has_in, in_rises}
use Rattle.agenda_wheel.proofs.Freeing.{tick_in as tick_within, actor_in, map_get}
use Rattle.agenda_wheel.proofs.Seeing.{cons_some, seen_past, Ahead, ahead_map, ahead_step, ahead_start}
use Rattle.agenda_wheel.proofs.Sets.{Has, rises_sorted}
use Rattle.agenda_wheel.proofs.Totals.{total, total_append, total_map, total_permuted, length_filter, is, IsLow, Ascends, same_counts, ascends_by}

-- ---- where a walk begins

pub none_past : (ns : List Node) (x : ℕ) → length ns ≤ x → pair_at ns x ≡ None
none_past ns x h = ap (λ (n : Node). n.pair) (get_or_past ns x no_node h)

pub tick_past : (ns : List Node) (x : ℕ) → length ns ≤ x → next_of side.Tick ns x ≡ nil
tick_past ns x h = ap (λ (n : Node). n.by_tick.next) (get_or_past ns x no_node h)

pub actor_past : (ns : List Node) (x : ℕ) → length ns ≤ x → next_of side.Actor ns x ≡ nil
actor_past ns x h = ap (λ (n : Node). n.by_actor.next) (get_or_past ns x no_node h)

-- what a read in the vector gives where there is no node
abbrev pub zero_node : Node
zero_node = record { pair = None; by_tick = record { next = 0; prev = 0 }; by_actor = record { next = 0; prev = 0 } }

pub read_at : (ns : List Node) (x : ℕ) → x < length ns → get_or ns x zero_node ≡ node_of ns x
read_at ns x h = get_or_default ns x zero_node no_node h

-- sums over what is seen are sums over all pairs, where only pairs of the list count, and only such are seen
abbrev pub Fair : List Due → (Due → Type 0) → List Due → Type 0
Fair dues of ds = ((g : Due → ℕ) → ((d : Due) → g d ≢ 0 → of d) → total g ds ≡ total g dues) × ((y : Due) → Has y ds → of y)

module _ (ns : List Node) (small : length ns ≤ nil) (apart : Distinct (pairs_of ns)) where
  pub tick_ahead : (ts : List ℕ) (b : ℕ) → ByTick ns ts → Ahead (next_of side.Tick ns) (pair_at ns) nil (head_of ts b) (length ns)
      (Fair (sorted (pairs_of ns)) (λ d. bucket d ≡ b))
  tick_ahead ts b l =
      ahead_map (next_of side.Tick ns) (pair_at ns) nil (head_of ts b) (length ns) _ (Fair (sorted (pairs_of ns)) (λ d. bucket d ≡ b))
      (λ ds h. (
        λ g of. h.0 g (λ x d e ne. ap (option_map bucket) e ∙ ap Some (of d ne)),
        λ y t. let k = h.1 y t in same_Some (bucket y) b (sym (ap (option_map bucket) k.1) ∙ k.2),
      ))
      (ahead_start (next_of side.Tick ns) (prev_of side.Tick ns) (head_of ts) (tick_color ns) nil l b (tick_past ns nil small) (pair_at ns)
      (pairs_of ns) (length ns) apart (map_get ns) (λ x h. tick_within ns x b h))

  pub actor_ahead : (hs : List ℕ) (a : ℕ) → ByActor ns hs → Ahead (next_of side.Actor ns) (pair_at ns) nil (head_of hs (a + 1)) (length ns)
      (Fair (sorted (pairs_of ns)) (λ d. d.actor.0 ≡ a))
  actor_ahead hs a l =
      ahead_map (next_of side.Actor ns) (pair_at ns) nil (head_of hs (a + 1)) (length ns) _ (Fair (sorted (pairs_of ns)) (λ d. d.actor.0 ≡ a))
      (λ ds h. (
        λ g of. h.0 g (λ x d e ne. color_is ns x d e ∙ ap (λ k. Some (k + 1)) (of d ne)),
        λ y t. let k = h.1 y t in suc_same y.actor.0 a (sym (color_is ns k.0 y k.1) ∙ k.2),
      ))
      (ahead_start (next_of side.Actor ns) (prev_of side.Actor ns) (head_of hs) (actor_color ns) nil l (a + 1) (actor_past ns nil small)
      (pair_at ns) (pairs_of ns) (length ns) apart (map_get ns) (λ x h. actor_in ns x (a + 1) h))

  -- past the vector nothing is ahead
  pub nothing_ahead : (next : ℕ → ℕ) (at left : ℕ) (P : List Due → Type 0) → ((x : ℕ) → length ns ≤ x → next x ≡ nil) → length ns ≤ at
      → Ahead next (pair_at ns) nil at left P → P []
  nothing_ahead next at left P past h a =
      subst P (seen_past next (pair_at ns) nil at (past nil small) (none_past ns nil small) (past at h) (none_past ns at h) a.steps) a.rest

  -- a node of the vector is seen, and the walk goes on behind it
  pub one_ahead : (next : ℕ → ℕ) (at left : ℕ) (P Q : List Due → Type 0) → at < length ns
      → ((ds : List Due) → P (cons_some (pair_at ns at) ds) → Q ds) → Ahead next (pair_at ns) nil at left P
      → (0 < left) × Ahead next (pair_at ns) nil (next at) (left - 1) Q
  one_ahead next at left P Q h f a =
      let s = ahead_step next (pair_at ns) nil at left P (λ e. omega (arith, e, h, small)) a in
      (s.0, ahead_map next (pair_at ns) nil (next at) (left - 1) (λ ds. P (cons_some (pair_at ns at) ds)) Q f s.1)

-- ---- how many have a tick

pub due_length : (t : ℕ) (dues : List Due) → length (due_at t dues) ≡ total (λ d. count_in t (Some d)) dues
due_length t dues = length-map (filter (λ (d : Due). nat_eq d.tick t) dues) (λ (d : Due). d.actor)
    ∙ length_filter (λ (d : Due). nat_eq d.tick t) dues

pub counts_tick : (t : ℕ) (d : Due) → count_in t (Some d) ≢ 0 → d.tick ≡ t
counts_tick t d ne =
    elim (cases_eq d.tick t) [
      | inl e ↦ e
      | inr other ↦ let f : count_in t (Some d) ≡ 0 = grind (arith, nat_tests, other) in absurd (ne f)
    ]

pub counted : (t count : ℕ) (o : Option Due) (ds : List Due) (all : ℕ) → count + total (λ d. count_in t (Some d)) (cons_some o ds) ≡ all
    → count + count_in t o + total (λ d. count_in t (Some d)) ds ≡ all
counted t count None ds all h = omega (arith, h)
counted t count (Some d) ds all h = omega (arith, h)

-- ---- the least tick

abbrev pub least_seen : List Due → Option ℕ
least_seen [] = None
least_seen (d ∷ ds) = lesser (Some d.tick) (least_seen ds)

lesser_three : (a b c : Option ℕ) → lesser a (lesser b c) ≡ lesser (lesser a b) c
lesser_three None b c = refl
lesser_three (Some x) None c = refl
lesser_three (Some x) (Some y) None = refl
lesser_three (Some x) (Some y) (Some z) = let e : min x (min y z) ≡ min (min x y) z = omega arith in ap Some e

pub lessened : (l : Option ℕ) (o : Option Due) (ds : List Due) (all : Option ℕ) → lesser l (least_seen (cons_some o ds)) ≡ all
    → lesser (lesser l (option_map (λ (d : Due). d.tick) o)) (least_seen ds) ≡ all
lessened l None ds all h = ap (λ k. lesser k (least_seen ds)) (lesser_none l) ∙ h
  where
    lesser_none : (k : Option ℕ) → lesser k None ≡ k
    lesser_none None = refl
    lesser_none (Some x) = refl
lessened l (Some d) ds all h = sym (lesser_three l (Some d.tick) (least_seen ds)) ∙ h

pub lessened_last : (l all : Option ℕ) → lesser l (least_seen []) ≡ all → l ≡ all
lessened_last None all h = h
lessened_last (Some x) all h = h

none_seen : (ds : List Due) → least_seen ds ≡ None → (y : Due) → ¬ Has y ds
none_seen [] e y h = h
none_seen (d ∷ ds) e y h = absurd (never (least_seen ds) e)
  where
    never : (o : Option ℕ) → lesser (Some d.tick) o ≡ None → ⊥
    never None f = none-some d.tick (sym f)
    never (Some u) f = none-some (min d.tick u) (sym f)

-- the tick is of one of the pairs, and above none
record IsLeastSeen (ds : List Due) (t : ℕ) : Type 0 where
  one : Due
  there : Has one ds
  mine : one.tick ≡ t
  low : (y : Due) → Has y ds → t ≤ y.tick

lowest : (d : Due) (ds : List Due) (t : ℕ) (o : Option ℕ) → least_seen ds ≡ o → ((u : ℕ) → least_seen ds ≡ Some u → IsLeastSeen ds u)
    → lesser (Some d.tick) o ≡ Some t → IsLeastSeen (d ∷ ds) t
lowest d ds t None n later f =
    let k = same_Some d.tick t f in
    record {
      one = d;
      there = inl refl;
      mine = k;
      low = λ y h. elim h [
        | inl same ↦ let g = ap (λ (x : Due). x.tick) same in omega (arith, g, k)
        | inr there ↦ absurd (none_seen ds n y there)
      ];
    }
lowest d ds t (Some u) n later f =
    let m = later u n in
    let k = same_Some (min d.tick u) t f in
    let low' : (y : Due) → Has y (d ∷ ds) → t ≤ y.tick = λ y h. elim h [
      | inl same ↦ let g = ap (λ (x : Due). x.tick) same in omega (arith, g, k)
      | inr there ↦ let v = m.low y there in omega (arith, v, k)
    ] in
    elim (cases_eq (d.tick - u) 0) [
      | inl less ↦ record { one = d; there = inl refl; mine = omega (arith, less, k); low = low' }
      | inr more ↦ let e = m.mine in record { one = m.one; there = inr m.there; mine = omega (arith, more, k, e); low = low' }
    ]

seen_some : (ds : List Due) (t : ℕ) → least_seen ds ≡ Some t → IsLeastSeen ds t
seen_some [] t e = absurd (none-some t e)
seen_some (d ∷ ds) t e = lowest d ds t (least_seen ds) refl (λ u f. seen_some ds u f) e

total_has : (g : Due → ℕ) (xs : List Due) (y : Due) → Has y xs → g y ≤ total g xs
total_has g [] y h = absurd h
total_has g (x ∷ xs) y h =
    elim h [
      | inl same ↦ let e = ap g same in omega (arith, e)
      | inr there ↦ let k = total_has g xs y there in omega (arith, k)
    ]

has_total : (g : Due → ℕ) (xs : List Due) → total g xs ≢ 0 → (y : Due) × Has y xs × (g y ≢ 0)
has_total g [] ne = absurd (ne refl)
has_total g (x ∷ xs) ne =
    elim (cases_eq (g x) 0) [
      | inl e ↦ let k = has_total g xs (λ z. ne (omega (arith, e, z))) in (k.0, inr k.1, k.2)
      | inr there ↦ (x, inl refl, there)
    ]

-- 1 for a pair of the bucket at the tick
abbrev bucket_tick : ℕ → ℕ → Due → ℕ
bucket_tick b k d = cond (nat_eq (bucket d) b) (is k d.tick) 0

bucket_tick_here : (b : ℕ) (d : Due) → bucket d ≡ b → bucket_tick b d.tick d ≡ 1
bucket_tick_here b d e =
    let t : nat_eq (bucket d) b ≡ true = grind (arith, nat_tests, e) in
    let u : nat_eq d.tick d.tick ≡ true = grind (arith, nat_tests) in
    rw (t, u) refl

no_bucket : (b k : ℕ) (d : Due) → bucket d ≢ b → bucket_tick b k d ≡ 0
no_bucket b k d o = let t : nat_eq (bucket d) b ≡ false = grind (arith, nat_tests, o) in rw t refl

no_tick : (b k : ℕ) (d : Due) → bucket d ≡ b → d.tick ≢ k → bucket_tick b k d ≡ 0
no_tick b k d e o =
    let t : nat_eq (bucket d) b ≡ true = grind (arith, nat_tests, e) in
    let u : nat_eq d.tick k ≡ false = grind (arith, nat_tests, o) in
    rw (t, u) refl

bucket_tick_of : (b k : ℕ) (d : Due) → bucket_tick b k d ≢ 0 → (bucket d ≡ b) × (d.tick ≡ k)
bucket_tick_of b k d ne =
    elim (cases_eq (bucket d) b) [
      | inl e ↦ elim (cases_eq d.tick k) [
        | inl f ↦ (e, f)
        | inr other ↦ absurd (ne (no_tick b k d e other))
      ]
      | inr other ↦ absurd (ne (no_bucket b k d other))
    ]

-- where the sums agree, a pair of the one list has a fellow in the other
matched : (b : ℕ) (xs ys : List Due) (y : Due) → ((k : ℕ) → total (bucket_tick b k) xs ≡ total (bucket_tick b k) ys) → Has y xs → bucket y ≡ b
    → (z : Due) × Has z ys × (bucket z ≡ b) × (z.tick ≡ y.tick)
matched b xs ys y same h e =
    let one = total_has (bucket_tick b y.tick) xs y h in
    let here = bucket_tick_here b y e in
    let eq = same y.tick in
    let k = has_total (bucket_tick b y.tick) ys (λ z. omega (arith, one, here, eq, z)) in
    let m = bucket_tick_of b y.tick k.0 k.2 in
    (k.0, k.1, m.0, m.1)

-- the least of what is seen of a bucket is its least
pub seen_least : (b : ℕ) (dues ds : List Due) → Rises dues → Fair dues (λ d. bucket d ≡ b) ds → least_seen ds ≡ least (in_bucket b dues)
seen_least b dues ds r fair =
    let sums : (k : ℕ) → total (bucket_tick b k) ds ≡ total (bucket_tick b k) dues = λ k.
    fair.0 (bucket_tick b k) (λ d ne. (bucket_tick_of b k d ne).0) in
    told (least_seen ds) refl sums
  where
    told : (o : Option ℕ) → least_seen ds ≡ o → ((k : ℕ) → total (bucket_tick b k) ds ≡ total (bucket_tick b k) dues)
        → least_seen ds ≡ least (in_bucket b dues)
    told None e sums =
        e ∙ sym (none_least (in_bucket b dues) (λ y h.
        let m = has_in b y dues h in
        let z = matched b dues ds y (λ k. sym (sums k)) m.0 m.1 in
        none_seen ds e z.0 z.1))
    told (Some t) e sums =
        let s = seen_some ds t e in
        let z = matched b ds dues s.one sums s.there (fair.1 s.one s.there) in
        let low : (y : Due) → Has y (in_bucket b dues) → z.0.tick ≤ y.tick = λ y h.
        let m = has_in b y dues h in
        let x = matched b dues ds y (λ k. sym (sums k)) m.0 m.1 in
        let v = s.low x.0 x.1 in
        let u = s.mine in
        omega (arith, v, u, x.3, z.3) in
        let same : t ≡ z.0.tick = sym s.mine ∙ sym z.3 in
        e ∙ ap Some same ∙ sym (least_at (in_bucket b dues) z.0 (in_rises b dues r) (in_has b z.0 dues z.1 z.2) low)

-- ---- the ticks of an actor

total_same : (g h : Due → ℕ) (ds : List Due) → ((y : Due) → Has y ds → g y ≡ h y) → total g ds ≡ total h ds
total_same g h [] e = refl
total_same g h (d ∷ ds) e =
    let a = e d (inl refl) in
    let b = total_same g h ds (λ y t. e y (inr t)) in
    omega (arith, a, b)

pub total_filter : (g : Due → ℕ) (p : Due → Bool) (ds : List Due) → total g (filter p ds) ≡ total (λ d. cond (p d) (g d) 0) ds
total_filter g p [] = refl
total_filter g p (d ∷ ds) = told (p d) (total_filter g p ds)
  where
    told : (b : Bool) → total g (filter p ds) ≡ total (λ (x : Due). cond (p x) (g x) 0) ds
        → total g (cond b (d ∷ filter p ds) (filter p ds)) ≡ cond b (g d) 0 + total (λ (x : Due). cond (p x) (g x) 0) ds
    told true h = omega (arith, h)
    told false h = omega (arith, h)

actor_tick_of : (a k : ℕ) (d : Due) → cond (nat_eq d.actor.0 a) (is k d.tick) 0 ≢ 0 → d.actor.0 ≡ a
actor_tick_of a k d ne =
    elim (cases_eq d.actor.0 a) [
      | inl e ↦ e
      | inr o ↦ let t : nat_eq d.actor.0 a ≡ false = grind (arith, nat_tests, o) in absurd (ne (rw t refl))
    ]

pub seen_ticks : (a : ActorId) (dues ds : List Due) → Fair dues (λ d. d.actor.0 ≡ a.0) ds → (k : ℕ)
    → total (is k) (map (λ (d : Due). d.tick) ds) ≡ total (is k) (ticks_of a dues)
seen_ticks a dues ds fair k =
    total_map (is k) (λ (d : Due). d.tick) ds
    ∙ total_same (λ d. is k d.tick) (λ d. cond (nat_eq d.actor.0 a.0) (is k d.tick) 0) ds (λ y h. let e = fair.1 y h in
    let t : nat_eq y.actor.0 a.0 ≡ true = grind (arith, nat_tests, e) in rw t refl)
    ∙ fair.0 (λ d. cond (nat_eq d.actor.0 a.0) (is k d.tick) 0) (λ d ne. actor_tick_of a.0 k d ne)
    ∙ sym (total_map (is k) (λ (d : Due). d.tick) (filter (λ (d : Due). nat_eq d.actor.0 a.0) dues)
    ∙ total_filter (λ d. is k d.tick) (λ d. nat_eq d.actor.0 a.0) dues)

pub pushed : (k : ℕ) (ticks : List ℕ) (o : Option Due) (ds : List Due) (all : ℕ)
    → total (is k) ticks + total (is k) (map (λ (d : Due). d.tick) (cons_some o ds)) ≡ all
    → total (is k) (ticks ++ tick_in o) + total (is k) (map (λ (d : Due). d.tick) ds) ≡ all
pushed k ticks None ds all h = let e = total_append (is k) ticks [] in omega (arith, h, e)
pushed k ticks (Some d) ds all h = let e = total_append (is k) ticks (d.tick ∷ []) in omega (arith, h, e)

not_later : (x y : Due) → comes_before x y ≡ true → x.tick ≤ y.tick
not_later x y p = grind (arith, nat_tests, p)

next_actor : (x y : Due) (t : ℕ) → comes_before x y ≡ true → x.tick ≡ t → y.tick ≡ t → x.actor.0 ≤ y.actor.0
next_actor x y t p e f = grind (arith, nat_tests, p, e, f)

ticks_low : (a : ActorId) (x : Due) (xs : List Due) → IsBelow x xs → IsLow x.tick (ticks_of a xs)
ticks_low a x [] b = tt
ticks_low a x (y ∷ ys) b = told (nat_eq y.actor.0 a.0) (ticks_low a x ys b.1)
  where
    told : (c : Bool) → IsLow x.tick (ticks_of a ys) → IsLow x.tick (map (λ (d : Due).
        d.tick) (cond c (y ∷ filter (λ (d : Due). nat_eq d.actor.0 a.0) ys) (filter (λ (d : Due). nat_eq d.actor.0 a.0) ys)))
    told true h = (not_later x y b.0, h)
    told false h = h

pub ticks_rise : (a : ActorId) (xs : List Due) → Rises xs → Ascends (ticks_of a xs)
ticks_rise a [] r = tt
ticks_rise a (x ∷ xs) r = told (nat_eq x.actor.0 a.0) (ticks_rise a xs r.1)
  where
    told : (c : Bool) → Ascends (ticks_of a xs) → Ascends (map (λ (d : Due).
        d.tick) (cond c (x ∷ filter (λ (d : Due). nat_eq d.actor.0 a.0) xs) (filter (λ (d : Due). nat_eq d.actor.0 a.0) xs)))
    told true h = (ticks_low a x xs r.0, h)
    told false h = h

-- ---- the actors of a tick

abbrev pub ids : List ActorId → List ℕ
ids actors = map (λ (a : ActorId). a.0) actors

ids_low : (t : ℕ) (x : Due) (xs : List Due) → x.tick ≡ t → IsBelow x xs → IsLow x.actor.0 (ids (due_at t xs))
ids_low t x [] e b = tt
ids_low t x (y ∷ ys) e b = told (nat_eq y.tick t) refl (ids_low t x ys e b.1)
  where
    told : (c : Bool) → nat_eq y.tick t ≡ c → IsLow x.actor.0 (ids (due_at t ys))
        → IsLow x.actor.0 (ids (map (λ (d : Due). d.actor) (cond c (y ∷ filter (λ (d : Due). nat_eq d.tick t) ys)
        (filter (λ (d : Due). nat_eq d.tick t) ys))))
    told true f h = let g : y.tick ≡ t = grind (arith, nat_tests, f) in (next_actor x y t b.0 e g, h)
    told false f h = h

pub ids_rise : (t : ℕ) (xs : List Due) → Rises xs → Ascends (ids (due_at t xs))
ids_rise t [] r = tt
ids_rise t (x ∷ xs) r = told (nat_eq x.tick t) refl (ids_rise t xs r.1)
  where
    told : (c : Bool) → nat_eq x.tick t ≡ c → Ascends (ids (due_at t xs))
        → Ascends (ids (map (λ (d : Due). d.actor) (cond c (x ∷ filter (λ (d : Due). nat_eq d.tick t) xs)
        (filter (λ (d : Due). nat_eq d.tick t) xs))))
    told true f h = let g : x.tick ≡ t = grind (arith, nat_tests, f) in (ids_low t x xs g r.0, h)
    told false f h = h

the_actor : ℕ → ActorId
the_actor n = record { 0 = n }

back : (xs : List ActorId) → map the_actor (ids xs) ≡ xs
unfolding the_actor
back [] = refl
back (x ∷ xs) = ap (λ ys. x ∷ ys) (back xs)

pub same_ids : (xs ys : List ActorId) → ids xs ≡ ids ys → xs ≡ ys
same_ids xs ys e = sym (back xs) ∙ ap (map the_actor) e ∙ back ys

map_id : (ns : List ℕ) → map (λ (n : ℕ). n) ns ≡ ns
map_id [] = refl
map_id (n ∷ ns) = ap (λ ms. n ∷ ms) (map_id ns)

-- ---- the three loops

abbrev pub Counting : List Node → ℕ → ℕ → List Due → Type 0
Counting ns t count ds = count + total (λ (d : Due). count_in t (Some d)) ds ≡ length (due_at t (sorted (pairs_of ns)))

abbrev pub Lessening : List Node → ℕ → Option ℕ → List Due → Type 0
Lessening ns b l ds = lesser l (least_seen ds) ≡ least (in_bucket b (sorted (pairs_of ns)))

abbrev pub Pushing : List Node → ActorId → List ℕ → List Due → Type 0
Pushing ns a ticks ds = (k : ℕ) → total (is k) ticks + total (is k) (map (λ (d : Due). d.tick) ds) ≡ total (is k)
    (ticks_of a (sorted (pairs_of ns)))

pub count_small : (t : ℕ) (o : Option Due) → count_in t o ≤ 1
count_small t None = omega arith
count_small t (Some d) = told (nat_eq d.tick t)
  where
    told : (b : Bool) → cond b 1 0 ≤ 1
    told true = omega arith
    told false = omega arith

module _ (ns : List Node) (small : length ns ≤ nil) (apart : Distinct (pairs_of ns)) where
  pub count_begin : (ts : List ℕ) (t : ℕ) → ByTick ns ts → Ahead (next_of side.Tick ns) (pair_at ns) nil (head_of ts (t % 1024)) (length ns)
      (Counting ns t 0)
  count_begin ts t l =
      ahead_map (next_of side.Tick ns) (pair_at ns) nil (head_of ts (t % 1024)) (length ns)
      (Fair (sorted (pairs_of ns)) (λ d. bucket d ≡ t % 1024)) (Counting ns t 0)
      (λ ds fair.
      let e = fair.0 (λ d. count_in t (Some d)) (λ d ne. ap (λ k. k % 1024) (counts_tick t d ne)) in
      let f = due_length t (sorted (pairs_of ns)) in
      omega (arith, e, f))
      (tick_ahead ns small apart ts (t % 1024) l)

  pub count_next : (t at left count more : ℕ) → at < length ns → more ≡ count_in t (pair_at ns at)
      → Ahead (next_of side.Tick ns) (pair_at ns) nil at left (Counting ns t count)
      → (0 < left) × Ahead (next_of side.Tick ns) (pair_at ns) nil (next_of side.Tick ns at) (left - 1) (Counting ns t (count + more))
  count_next t at left count more h e a =
      one_ahead ns small apart (next_of side.Tick ns) at left (Counting ns t count) (Counting ns t (count + more)) h
      (λ ds p. ap (λ m. count + m + total (λ (d : Due). count_in t (Some d)) ds) e
      ∙ counted t count (pair_at ns at) ds (length (due_at t (sorted (pairs_of ns)))) p) a

  pub count_end : (t at left count : ℕ) → length ns ≤ at → Ahead (next_of side.Tick ns) (pair_at ns) nil at left (Counting ns t count)
      → count ≡ length (due_at t (sorted (pairs_of ns)))
  count_end t at left count h a = let k = nothing_ahead ns small apart (next_of side.Tick ns) at left (Counting ns t count) (tick_past ns) h a in
      omega (arith, k)

  pub least_begin : (ts : List ℕ) (b : ℕ) → ByTick ns ts → Ahead (next_of side.Tick ns) (pair_at ns) nil (head_of ts b) (length ns)
      (Lessening ns b None)
  least_begin ts b l =
      ahead_map (next_of side.Tick ns) (pair_at ns) nil (head_of ts b) (length ns) (Fair (sorted (pairs_of ns)) (λ d. bucket d ≡ b))
      (Lessening ns b None)
      (λ ds fair. seen_least b (sorted (pairs_of ns)) ds (rises_sorted (pairs_of ns)) fair)
      (tick_ahead ns small apart ts b l)

  pub least_next : (b at left : ℕ) (l m o : Option ℕ) → at < length ns → o ≡ option_map (λ (d : Due). d.tick) (pair_at ns at) → m ≡ lesser l o
      → Ahead (next_of side.Tick ns) (pair_at ns) nil at left (Lessening ns b l)
      → (0 < left) × Ahead (next_of side.Tick ns) (pair_at ns) nil (next_of side.Tick ns at) (left - 1) (Lessening ns b m)
  least_next b at left l m o h e f a =
      one_ahead ns small apart (next_of side.Tick ns) at left (Lessening ns b l) (Lessening ns b m) h
      (λ ds p. ap (λ k. lesser k (least_seen ds)) (f ∙ ap (lesser l) e) ∙ lessened l (pair_at ns at) ds
      (least (in_bucket b (sorted (pairs_of ns)))) p) a

  pub least_end : (b at left : ℕ) (l : Option ℕ) → length ns ≤ at → Ahead (next_of side.Tick ns) (pair_at ns) nil at left (Lessening ns b l)
      → l ≡ least (in_bucket b (sorted (pairs_of ns)))
  least_end b at left l h a =
      lessened_last l (least (in_bucket b (sorted (pairs_of ns)))) (nothing_ahead ns small apart (next_of side.Tick ns) at left
      (Lessening ns b l) (tick_past ns) h a)

  pub push_begin : (hs : List ℕ) (a : ActorId) → ByActor ns hs → Ahead (next_of side.Actor ns) (pair_at ns) nil (head_of hs (a.0 + 1))
      (length ns) (Pushing ns a [])
  push_begin hs a l =
      ahead_map (next_of side.Actor ns) (pair_at ns) nil (head_of hs (a.0 + 1)) (length ns) (Fair (sorted (pairs_of ns)) (λ d. d.actor.0 ≡ a.0))
      (Pushing ns a [])
      (λ ds fair k. let e = seen_ticks a (sorted (pairs_of ns)) ds fair k in omega (arith, e))
      (actor_ahead ns small apart hs a.0 l)

  pub push_next : (a : ActorId) (at left : ℕ) (ticks more : List ℕ) → at < length ns → more ≡ ticks ++ tick_in (pair_at ns at)
      → Ahead (next_of side.Actor ns) (pair_at ns) nil at left (Pushing ns a ticks)
      → (0 < left) × Ahead (next_of side.Actor ns) (pair_at ns) nil (next_of side.Actor ns at) (left - 1) (Pushing ns a more)
  push_next a at left ticks more h e w =
      one_ahead ns small apart (next_of side.Actor ns) at left (Pushing ns a ticks) (Pushing ns a more) h
      (λ ds p k. ap (λ ts. total (is k) ts + total (is k) (map (λ (d : Due). d.tick) ds)) e
      ∙ pushed k ticks (pair_at ns at) ds (total (is k) (ticks_of a (sorted (pairs_of ns)))) (p k)) w

  -- what was pushed, in order, is what the actor asked for
  pub push_end : (a : ActorId) (at left : ℕ) (ticks inorder : List ℕ) → length ns ≤ at
      → Ahead (next_of side.Actor ns) (pair_at ns) nil at left (Pushing ns a ticks)
      → IsSorted nat_cmp inorder → IsPermutation ticks inorder → inorder ≡ ticks_of a (sorted (pairs_of ns))
  push_end a at left ticks inorder h w sorted_ same =
      let all = nothing_ahead ns small apart (next_of side.Actor ns) at left (Pushing ns a ticks) (actor_past ns) h w in
      same_counts inorder (ticks_of a (sorted (pairs_of ns)))
      (subst Ascends (map_id inorder) (ascends_by (λ n. n) inorder (IsNonDecreasingBy-from_sort (λ n. n) inorder sorted_)))
      (ticks_rise a (sorted (pairs_of ns)) (rises_sorted (pairs_of ns)))
      (λ k. let e = all k in let f = total_permuted (is k) ticks inorder same in omega (arith, e, f))
