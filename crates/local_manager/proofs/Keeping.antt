-- What managers keep stays the one world.
use Rattle.std.proofs.Common.{◌≡◌, ℕ, suc, zero, ◌+◌, ◌-◌, ◌<◌, ◌≤◌, Bool, true, false, not, cond, nat_eq, List, [], ◌∷◌, map, Some, slice_get}
use Rattle.std.proofs.Common.{slice_set, get_or, length, refl, sym, ap, arith, ◌∙◌, subst}
use Rattle.std.proofs.lemmas.Bool.Decides.{nat_tests}
use Rattle.std.specs.Prelude.{Err, Ok, OnErr, OnOk, Result}
use Rattle.std.proofs.lemmas.List.{length-map, length-set}
use Rattle.std.specs.List.{filter}
use Rattle.sim_base.specs.declared.ids.ActorId.{ActorId}
use Rattle.local_manager.specs.Merged.{insert, union, Precedes, IsRising, IsOrder, IsTotal, at_home, IsSplit}
use Rattle.agenda.specs.Dues.{add_due, comes_before, due_at, without_actor, without_tick}
use Rattle.sim_model.specs.Moment.{ask}
use Rattle.local_manager.specs.Directories.{AllBelow, Kept, id_before, home_of, home_of_due}
use Rattle.agenda.specs.declared.due.Due.{Due}
use Rattle.local_manager.proofs.Merging.{rises_union, rises_filter, rises_insert, filter_insert, union_split, AllHome}

abbrev the_id : ℕ → ActorId
the_id n = record { 0 = n }

abbrev the_due : ℕ → ℕ → Due
the_due t n = record { tick = t; actor = record { 0 = n } }

pub id_order : IsOrder id_before
id_order = record {
  one_way = λ x y h. grind (arith, nat_tests, h);
  chains = λ x y z h k. grind (arith, nat_tests, h, k);
}

pub id_total : IsTotal id_before
id_total = λ x y h k. let e : x.0 ≡ y.0 = grind (arith, nat_tests, h, k) in ap (λ (n : ℕ). the_id n) e

pub due_order : IsOrder comes_before
due_order = record {
  one_way = λ x y h. grind (arith, nat_tests, h);
  chains = λ x y z h k. grind (arith, nat_tests, h, k);
}

pub due_total : IsTotal comes_before
due_total = λ x y h k.
    let e : x.tick ≡ y.tick = grind (arith, nat_tests, h, k) in
    let f : x.actor.0 ≡ y.actor.0 = grind (arith, nat_tests, h, k) in ap (λ (t : ℕ). the_due t x.actor.0) e ∙ ap (λ (n : ℕ). the_due y.tick n) f

pub below_at : (n : ℕ) (homes : List ℕ) (i : ℕ) → 0 < n → AllBelow n homes → get_or homes i 0 < n
below_at n [] i some h = some
below_at n (x ∷ xs) zero some h = h.0
below_at n (x ∷ xs) (suc i) some h = below_at n xs i some h.1

pub all_home : {X : Type 0} (f : X → ActorId) (n : ℕ) (homes : List ℕ) (xs : List X) → 0 < n → AllBelow n homes → AllHome (λ x. home_of homes (f x)) n xs
all_home f n homes [] some h = tt
all_home f n homes (x ∷ xs) some h = (below_at n homes ((f x).0 - 1) some h, all_home f n homes xs some h)

-- a part of what was mapped is what the part was mapped to
get_map : {X Y S : Type 0} (f : S → List X) (op : List X → List Y) (xs : List S) (m : ℕ) (p : List Y) → slice_get (map (λ a. op (f a)) xs) m ≡ Some p
    → (q : List X) × (slice_get (map f xs) m ≡ Some q) × (p ≡ op q)
get_map f op [] m p e = absurd (cc)
get_map f op (x ∷ xs) zero p e = (f x, refl, cc)
get_map f op (x ∷ xs) (suc m) p e = get_map f op xs m p e

pub split_map : {X Y S : Type 0} (f : S → List X) (op : List X → List Y) (home : X → ℕ) (to : Y → ℕ) (all : List X) (xs : List S)
    → ((m : ℕ) → op (at_home home m all) ≡ at_home to m (op all)) → IsSplit home all (map f xs) → IsSplit to (op all) (map (λ a. op (f a)) xs)
split_map f op home to all xs same s = λ m p e.
    let found = get_map f op xs m p e in
    found.2 ∙ ap op (s m found.0 found.1) ∙ same m

pub filters_swap : {X : Type 0} (p q : X → Bool) (xs : List X) → filter p (filter q xs) ≡ filter q (filter p xs)
filters_swap p q [] = refl
filters_swap {X} p q (x ∷ xs) = deeper (filters_swap p q xs) (p x) (q x) refl refl
  where
    deeper : filter p (filter q xs) ≡ filter q (filter p xs) → (b c : Bool) → p x ≡ b → q x ≡ c
        → filter p (cond c (x ∷ filter q xs) (filter q xs)) ≡ filter q (cond b (x ∷ filter p xs) (filter p xs))
    deeper g true true hb hc = rw (hb, hc, g)
    deeper g true false hb hc = rw (hc, g)
    deeper g false true hb hc = rw (hb, g)
    deeper g false false hb hc = g

pub without_home : (homes : List ℕ) (tick : ℕ) (all : List Due) (m : ℕ)
    → without_tick tick (at_home (home_of_due homes) m all) ≡ at_home (home_of_due homes) m (without_tick tick all)
without_home homes tick all m = filters_swap (λ d. not (nat_eq d.tick tick)) (λ d. nat_eq (home_of_due homes d) m) all

map_home : (homes : List ℕ) (all : List Due) (m : ℕ) → map (λ d. d.actor) (at_home (home_of_due homes) m all) ≡ at_home (home_of homes) m
    (map (λ d. d.actor) all)
map_home homes [] m = refl
map_home homes (d ∷ ds) m = deeper (map_home homes ds m) (nat_eq (home_of_due homes d) m)
  where
    deeper : map (λ d. d.actor) (at_home (home_of_due homes) m ds) ≡ at_home (home_of homes) m (map (λ d. d.actor) ds) → (b : Bool)
        → map (λ d. d.actor) (cond b (d ∷ at_home (home_of_due homes) m ds) (at_home (home_of_due homes) m ds)) ≡ cond b
        (d.actor ∷ at_home (home_of homes) m (map (λ d. d.actor) ds)) (at_home (home_of homes) m (map (λ d. d.actor) ds))
    deeper g true = ap (λ l. d.actor ∷ l) g
    deeper g false = g

pub due_home : (homes : List ℕ) (tick : ℕ) (all : List Due) (m : ℕ)
    → due_at tick (at_home (home_of_due homes) m all) ≡ at_home (home_of homes) m (due_at tick all)
due_home homes tick all m = ap (λ (l : List Due). map (λ d. d.actor) l)
    (filters_swap (λ d. nat_eq d.tick tick) (λ d. nat_eq (home_of_due homes d) m) all) ∙ map_home homes (filter (λ d. nat_eq d.tick tick) all) m

due_precedes : (tick : ℕ) (d : Due) (ds : List Due) → d.tick ≡ tick → Precedes comes_before d ds → Precedes id_before d.actor (due_at tick ds)
due_precedes tick d [] e p = tt
due_precedes tick d (x ∷ xs) e p = deeper (due_precedes tick d xs e p.1) (nat_eq x.tick tick) refl
  where
    deeper : Precedes id_before d.actor (due_at tick xs) → (b : Bool) → nat_eq x.tick tick ≡ b
        → Precedes id_before d.actor (map (λ d. d.actor) (cond b (x ∷ filter (λ d. nat_eq d.tick tick) xs) (filter (λ d. nat_eq d.tick tick) xs)))
    deeper g true h = (grind (arith, nat_tests, p.0, h, e), g)
    deeper g false h = g

pub due_rises : (tick : ℕ) (ds : List Due) → IsRising comes_before ds → IsRising id_before (due_at tick ds)
due_rises tick [] r = tt
due_rises tick (d ∷ ds) r = deeper (due_rises tick ds r.1) (nat_eq d.tick tick) refl
  where
    deeper : IsRising id_before (due_at tick ds) → (b : Bool) → nat_eq d.tick tick ≡ b
        → IsRising id_before (map (λ d. d.actor) (cond b (d ∷ filter (λ d. nat_eq d.tick tick) ds) (filter (λ d. nat_eq d.tick tick) ds)))
    deeper g true h = (due_precedes tick d ds (grind (arith, nat_tests, h)) r.0, g)
    deeper g false h = g

-- what stands at a place of a list of which one place was written
abbrev pub Got : {X : Type 0} → List X → ℕ → X → X → Bool → Type 0
Got ps m q p true = p ≡ q
Got ps m q p false = slice_get ps m ≡ Some p

pub get_set : {X : Type 0} (ps : List X) (k m : ℕ) (q p : X) → slice_get (slice_set ps k q) m ≡ Some p → (b : Bool) → nat_eq k m ≡ b → Got ps m q p b
get_set [] k m q p e b h = absurd (cc)
get_set (x ∷ ps) zero zero q p e true h = cc
get_set (x ∷ ps) zero zero q p e false h = absurd (grind (arith, nat_tests, h))
get_set (x ∷ ps) zero (suc m) q p e true h = absurd (grind (arith, nat_tests, h))
get_set (x ∷ ps) zero (suc m) q p e false h = e
get_set (x ∷ ps) (suc k) zero q p e true h = absurd (grind (arith, nat_tests, h))
get_set (x ∷ ps) (suc k) zero q p e false h = e
get_set (x ∷ ps) (suc k) (suc m) q p e true h = get_set ps k m q p e true (grind (arith, nat_tests, h))
get_set (x ∷ ps) (suc k) (suc m) q p e false h = get_set ps k m q p e false (grind (arith, nat_tests, h))

-- one part was written
pub split_set : {X : Type 0} (home : X → ℕ) (all next : List X) (ps : List (List X)) (k : ℕ) (new : List X) → IsSplit home all ps → new ≡ at_home home k next
    → ((m : ℕ) → nat_eq k m ≡ false → at_home home m next ≡ at_home home m all) → IsSplit home next (slice_set ps k new)
split_set {X} home all next ps k new s here others = λ m p e. deeper m p (nat_eq k m) refl (get_set ps k m new p e (nat_eq k m) refl)
  where
    deeper : (m : ℕ) (p : List X) (b : Bool) → nat_eq k m ≡ b → Got ps m new p b → p ≡ at_home home m next
    deeper m p true h got = got ∙ here ∙ ap (λ (n : ℕ). at_home home n next) (grind (arith, nat_tests, h))
    deeper m p false h got = s m p got ∙ sym (others m h)

map_itself : {X : Type 0} (xs : List X) → map (λ x. x) xs ≡ xs
map_itself [] = refl
map_itself (x ∷ xs) = ap (λ l. x ∷ l) (map_itself xs)

-- ---- one part of what is kept is another, and the rest as before

pub kept_agendas : (homes loads : List ℕ) (olds news : List (List Due)) (lists : List (List ActorId)) → Kept homes loads olds lists → length news ≡ length olds
    → IsSplit (home_of_due homes) (union comes_before news) news → Kept homes loads news lists
kept_agendas homes loads olds news lists k same split = record {
  some = omega (arith, same, k.some);
  few = omega (arith, same, k.few);
  lists_each = k.lists_each ∙ sym same;
  loads_each = k.loads_each ∙ sym same;
  places = subst (λ (n : ℕ). AllBelow n homes) (sym same) k.places;
  counts = k.counts;
  dues = split;
  ids = k.ids;
}

pub kept_lists : (homes loads : List ℕ) (agendas : List (List Due)) (olds news : List (List ActorId)) → Kept homes loads agendas olds
    → length news ≡ length agendas
    → IsSplit (home_of homes) (union id_before news) news → Kept homes loads agendas news
kept_lists homes loads agendas olds news k same split = record {
  some = k.some;
  few = k.few;
  lists_each = same;
  loads_each = k.loads_each;
  places = k.places;
  counts = k.counts;
  dues = k.dues;
  ids = split;
}

pub kept_loads : (homes olds news : List ℕ) (agendas : List (List Due)) (lists : List (List ActorId)) → Kept homes olds agendas lists
    → length news ≡ length olds
    → AllBelow (length homes + 1) news → Kept homes news agendas lists
kept_loads homes olds news agendas lists k same below = record {
  some = k.some;
  few = k.few;
  lists_each = k.lists_each;
  loads_each = same ∙ k.loads_each;
  places = k.places;
  counts = below;
  dues = k.dues;
  ids = k.ids;
}

-- a list that is split into parts is their union
pub joined_ids : (homes : List ℕ) (n : ℕ) (ids : List ActorId) (lists : List (List ActorId)) → 0 < n → AllBelow n homes → length lists ≡ n
    → IsRising id_before ids
    → IsSplit (home_of homes) ids lists → union id_before lists ≡ ids
joined_ids homes n ids lists some places same rises split =
    union_split id_before id_order (home_of homes) ids lists rises
    (subst (λ (k : ℕ). AllHome (home_of homes) k ids) (sym same) (all_home (λ i. i) n homes ids some places)) split

pub joined_dues : (homes : List ℕ) (n : ℕ) (dues : List Due) (parts : List (List Due)) → 0 < n → AllBelow n homes → length parts ≡ n
    → IsRising comes_before dues
    → IsSplit (home_of_due homes) dues parts → union comes_before parts ≡ dues
joined_dues homes n dues parts some places same rises split =
    union_split comes_before due_order (home_of_due homes) dues parts rises
    (subst (λ (k : ℕ). AllHome (home_of_due homes) k dues) (sym same) (all_home (λ d. d.actor) n homes dues some places)) split

-- the parts are these dues, split
pub record AreDues (homes : List ℕ) (parts : List (List Due)) (dues : List Due) (n : ℕ) : Type 0 where
  pub split : IsSplit (home_of_due homes) (union comes_before parts) parts
  pub joined : union comes_before parts ≡ dues
  pub count : length parts ≡ n

are_dues : (homes : List ℕ) (n : ℕ) (dues : List Due) (parts : List (List Due)) → 0 < n → AllBelow n homes → length parts ≡ n → IsRising comes_before dues
    → IsSplit (home_of_due homes) dues parts → AreDues homes parts dues n
are_dues homes n dues parts some places same rises split =
    let one : union comes_before parts ≡ dues = joined_dues homes n dues parts some places same rises split in
    record {
      split = subst (λ (a : List Due). IsSplit (home_of_due homes) a parts) (sym one) split;
      joined = one;
      count = same;
    }

-- ---- entering the first diasca of a tick, manager by manager

pub record Entered (tick : ℕ) (homes : List ℕ) (olds news : List (List Due)) (lists : List (List ActorId)) : Type 0 where
  pub dues : AreDues homes news (without_tick tick (union comes_before olds)) (length olds)
  pub ids : IsSplit (home_of homes) (union id_before lists) lists
  pub scheduled : union id_before lists ≡ due_at tick (union comes_before olds)
  pub count : length lists ≡ length olds

pub entered : (tick : ℕ) (homes loads : List ℕ) (olds news : List (List Due)) (before lists : List (List ActorId)) → Kept homes loads olds before
    → news ≡ map (λ p. without_tick tick p) olds → lists ≡ map (λ p. due_at tick p) olds → Entered tick homes olds news lists
entered tick homes loads olds news before lists k e f =
    let all : List Due = union comes_before olds in
    let rises : IsRising comes_before all = rises_union comes_before due_order olds in
    let same_news : length news ≡ length olds = ap length e ∙ length-map olds (λ p. without_tick tick p) in
    let same_lists : length lists ≡ length olds = ap length f ∙ length-map olds (λ p. due_at tick p) in
    let itself : map (λ p. p) olds ≡ olds = map_itself olds in
    let kept : IsSplit (home_of_due homes) all (map (λ p. p) olds) = subst (λ (ps : List (List Due)). IsSplit (home_of_due homes) all ps) (sym itself) k.dues in
    let split_dues : IsSplit (home_of_due homes) (without_tick tick all) news =
    subst (λ (ps : List (List Due)). IsSplit (home_of_due homes) (without_tick tick all) ps) (sym e)
    (split_map (λ p. p) (without_tick tick) (home_of_due homes) (home_of_due homes) all olds (without_home homes tick all) kept) in
    let split_ids : IsSplit (home_of homes) (due_at tick all) lists =
    subst (λ (ps : List (List ActorId)). IsSplit (home_of homes) (due_at tick all) ps) (sym f)
    (split_map (λ p. p) (due_at tick) (home_of_due homes) (home_of homes) all olds (due_home homes tick all) kept) in
    let ids : union id_before lists ≡ due_at tick all = joined_ids homes (length olds) (due_at tick all) lists
    (omega (arith, k.some)) k.places same_lists (due_rises tick all rises) split_ids in
    record {
      dues = are_dues homes (length olds) (without_tick tick all) news (omega (arith, k.some)) k.places same_news
          (rises_filter comes_before (λ d. not (nat_eq d.tick tick)) all rises) split_dues;
      ids = subst (λ (a : List ActorId). IsSplit (home_of homes) a lists) (sym ids) split_ids;
      scheduled = ids;
      count = same_lists;
    }

-- the agenda of one manager was written
pub written : (homes loads : List ℕ) (olds : List (List Due)) (k : ℕ) (g : List Due) (lists : List (List ActorId)) (next : List Due)
    → Kept homes loads olds lists
    → IsRising comes_before next → g ≡ at_home (home_of_due homes) k next
    → ((m : ℕ) → nat_eq k m ≡ false → at_home (home_of_due homes) m next ≡ at_home (home_of_due homes) m (union comes_before olds))
    → AreDues homes (slice_set olds k g) next (length olds)
written homes loads olds k g lists next kept rises here others =
    are_dues homes (length olds) next (slice_set olds k g) (omega (arith, kept.some)) kept.places (length-set olds k g) rises
    (split_set (home_of_due homes) (union comes_before olds) next olds k g kept.dues here others)

pub add_is_insert : (d : Due) (xs : List Due) → add_due d xs ≡ insert comes_before d xs
add_is_insert d [] = refl
add_is_insert d (x ∷ xs) = ap (λ (l : List Due). cond (comes_before d x) (d ∷ x ∷ xs) (cond (comes_before x d) (x ∷ l) (x ∷ xs))) (add_is_insert d xs)

-- one more pair
add_home : (homes : List ℕ) (m : ℕ) (d : Due) (all : List Due) → IsRising comes_before all
    → at_home (home_of_due homes) m (add_due d all) ≡ cond (nat_eq (home_of_due homes d) m) (add_due d (at_home (home_of_due homes) m all))
    (at_home (home_of_due homes) m all)
add_home homes m d all rises =
    ap (at_home (home_of_due homes) m) (add_is_insert d all)
    ∙ filter_insert comes_before due_order due_total (λ x. nat_eq (home_of_due homes x) m) d all rises
    ∙ ap (λ (l : List Due). cond (nat_eq (home_of_due homes d) m) l (at_home (home_of_due homes) m all))
    (sym (add_is_insert d (at_home (home_of_due homes) m all)))

pub rises_add : (d : Due) (all : List Due) → IsRising comes_before all → IsRising comes_before (add_due d all)
rises_add d all rises = subst (λ (l : List Due). IsRising comes_before l) (sym (add_is_insert d all)) (rises_insert comes_before due_order d all rises)

rises_ask : (id : ActorId) (all : List Due) (ticks : List ℕ) → IsRising comes_before all → IsRising comes_before (ask id all ticks)
rises_ask id all [] rises = rises
rises_ask id all (t ∷ ticks) rises = rises_ask id (add_due (the_due t id.0) all) ticks (rises_add (the_due t id.0) all rises)

-- what one asks for goes to its own manager
ask_here : (homes : List ℕ) (m : ℕ) (id : ActorId) (ticks : List ℕ) (all : List Due) → IsRising comes_before all → nat_eq (home_of homes id) m ≡ true
    → at_home (home_of_due homes) m (ask id all ticks) ≡ ask id (at_home (home_of_due homes) m all) ticks
ask_here homes m id [] all rises h = refl
ask_here homes m id (t ∷ ticks) all rises h =
    ask_here homes m id ticks (add_due (the_due t id.0) all) (rises_add (the_due t id.0) all rises) h
    ∙ ap (λ (l : List Due). ask id l ticks) (add_home homes m (the_due t id.0) all rises ∙ rw h)

ask_elsewhere : (homes : List ℕ) (m : ℕ) (id : ActorId) (ticks : List ℕ) (all : List Due) → IsRising comes_before all → nat_eq (home_of homes id) m ≡ false
    → at_home (home_of_due homes) m (ask id all ticks) ≡ at_home (home_of_due homes) m all
ask_elsewhere homes m id [] all rises h = refl
ask_elsewhere homes m id (t ∷ ticks) all rises h =
    ask_elsewhere homes m id ticks (add_due (the_due t id.0) all) (rises_add (the_due t id.0) all rises) h
    ∙ add_home homes m (the_due t id.0) all rises ∙ rw h

pub asked : (homes loads : List ℕ) (olds : List (List Due)) (g : List Due) (lists : List (List ActorId)) (id : ActorId) (ticks : List ℕ)
    (old : List Due) → Kept homes loads olds lists
    → slice_get olds (home_of homes id) ≡ Some old → g ≡ ask id old ticks
    → AreDues homes (slice_set olds (home_of homes id) g) (ask id (union comes_before olds) ticks) (length olds)
asked homes loads olds g lists id ticks old kept is e =
    let all : List Due = union comes_before olds in
    let rises : IsRising comes_before all = rises_union comes_before due_order olds in
    let mine : nat_eq (home_of homes id) (home_of homes id) ≡ true = grind (arith, nat_tests) in
    written homes loads olds (home_of homes id) g lists (ask id all ticks) kept (rises_ask id all ticks rises)
    (e ∙ ap (λ (l : List Due). ask id l ticks) (kept.dues (home_of homes id) old is) ∙ sym (ask_here homes (home_of homes id) id ticks all rises mine))
    (λ m h. ask_elsewhere homes m id ticks all rises h)

-- no other part has this actor's
others_keep : (homes : List ℕ) (id : ActorId) (m : ℕ) (all : List Due) → nat_eq (home_of homes id) m ≡ false
    → without_actor id (at_home (home_of_due homes) m all) ≡ at_home (home_of_due homes) m all
others_keep homes id m [] h = refl
others_keep homes id m (d ∷ ds) h = deeper (others_keep homes id m ds h) (nat_eq (home_of_due homes d) m) (nat_eq d.actor.0 id.0) refl refl
  where
    deeper : without_actor id (at_home (home_of_due homes) m ds) ≡ at_home (home_of_due homes) m ds → (b c : Bool) → nat_eq (home_of_due homes d) m ≡ b
        → nat_eq d.actor.0 id.0 ≡ c
        → without_actor id (cond b (d ∷ at_home (home_of_due homes) m ds) (at_home (home_of_due homes) m ds)) ≡ cond b
        (d ∷ at_home (home_of_due homes) m ds) (at_home (home_of_due homes) m ds)
    deeper g false c hb hc = g
    deeper g true false hb hc = rw (hc, g)
    deeper g true true hb hc =
        let same : d.actor.0 ≡ id.0 = grind (arith, nat_tests, hc) in
        let home : nat_eq (home_of homes id) m ≡ true = subst (λ (n : ℕ). nat_eq (get_or homes (n - 1) 0) m ≡ true) same hb in
        absurd (cc (h, home))

-- the actor's pairs are gone
pub dropped : (homes loads : List ℕ) (olds : List (List Due)) (g : List Due) (lists : List (List ActorId)) (id : ActorId) (old : List Due)
    → Kept homes loads olds lists
    → slice_get olds (home_of homes id) ≡ Some old → g ≡ without_actor id old
    → AreDues homes (slice_set olds (home_of homes id) g) (without_actor id (union comes_before olds)) (length olds)
dropped homes loads olds g lists id old kept is e =
    let all : List Due = union comes_before olds in
    let rises : IsRising comes_before all = rises_union comes_before due_order olds in
    let swap : (m : ℕ) → at_home (home_of_due homes) m (without_actor id all) ≡ without_actor id (at_home (home_of_due homes) m all) =
    λ m. filters_swap (λ d. nat_eq (home_of_due homes d) m) (λ d. not (nat_eq d.actor.0 id.0)) all in
    written homes loads olds (home_of homes id) g lists (without_actor id all) kept (rises_filter comes_before (λ d. not (nat_eq d.actor.0 id.0)) all rises)
    (e ∙ ap (without_actor id) (kept.dues (home_of homes id) old is) ∙ sym (swap (home_of homes id)))
    (λ m h. swap m ∙ others_keep homes id m all h)

pub stands : {X : Type 0} (xs : List X) (k : ℕ) (x d : X) → k < length xs → x ≡ get_or xs k d → slice_get xs k ≡ Some x
stands [] k x d lt e = absurd (omega arith)
stands (y ∷ xs) zero x d lt e = ap (λ z. Some z) (sym e)
stands (y ∷ xs) (suc k) x d lt e = stands xs k x d (omega arith) e

pub home_fits : (homes loads : List ℕ) (agendas : List (List Due)) (lists : List (List ActorId)) (id : ActorId) → Kept homes loads agendas lists
    → home_of homes id < length agendas
home_fits homes loads agendas lists id k = below_at (length agendas) homes (id.0 - 1) (omega (arith, k.some)) k.places

pub below_set : (n : ℕ) (xs : List ℕ) (k v : ℕ) → v < n → AllBelow n xs → AllBelow n (slice_set xs k v)
below_set n [] k v lt h = tt
below_set n (x ∷ xs) zero v lt h = (lt, h.1)
below_set n (x ∷ xs) (suc k) v lt h = (h.0, below_set n xs k v lt h.1)

pub below_more : (n k : ℕ) (xs : List ℕ) → n ≤ k → AllBelow n xs → AllBelow k xs
below_more n k [] le h = tt
below_more n k (x ∷ xs) le h = (omega (arith, h.0, le), below_more n k xs le h.1)

pub on_ok : {T F P Q : Type 0} (r : Result T F) → (P → Q) → OnOk r P → OnOk r Q
on_ok (Ok x) f h = f h
on_ok (Err e) f h = h

-- whether or not there was memory
pub asked_either : {T F : Type 0} (homes loads : List ℕ) (olds : List (List Due)) (g : List Due) (lists : List (List ActorId)) (id : ActorId)
    (ticks : List ℕ) (old : List Due) → Kept homes loads olds lists
    → slice_get olds (home_of homes id) ≡ Some old → (r : Result T F) → OnOk r (g ≡ ask id old ticks) → OnErr r (g ≡ old)
    → Kept homes loads (slice_set olds (home_of homes id) g) lists
asked_either homes loads olds g lists id ticks old kept is (Ok x) ok err =
    let all = asked homes loads olds g lists id ticks old kept is ok in
    kept_agendas homes loads olds (slice_set olds (home_of homes id) g) lists kept all.count all.split
asked_either homes loads olds g lists id ticks old kept is (Err e) ok err =
    let same : ask id old [] ≡ old = refl in
    let all = asked homes loads olds g lists id [] old kept is err in
    kept_agendas homes loads olds (slice_set olds (home_of homes id) g) lists kept all.count all.split
