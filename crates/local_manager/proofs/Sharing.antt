-- A list shared out among managers.
use Rattle.std.proofs.Common.{◌≡◌, ℕ, suc, zero, ◌+◌, ◌<◌, ◌≤◌, Bool, true, false, nat_eq, List, [], ◌∷◌, ◌++◌, map, Some, slice_get, slice_set, length, refl}
use Rattle.std.proofs.Common.{get_or}
use Rattle.std.proofs.Common.{sym, ap, arith, ◌∙◌, subst}
use Rattle.std.proofs.lemmas.Bool.Decides.{nat_tests}
use Rattle.std.proofs.lemmas.List.{append-nil}
use Rattle.std.proofs.lemmas.List.Elements.{filter-append, All-head, All-tail}
use Rattle.std.specs.List.{filter, All}
use Rattle.std.specs.Prelude.{Err, Ok, OnErr, Result}
use Rattle.sim_base.specs.declared.ids.ActorId.{ActorId}
use Rattle.local_manager.specs.Merged.{union, IsRising, Precedes, at_home, IsSplit}
use Rattle.local_manager.specs.Directories.{AllBelow, Kept, home_of, home_of_due, id_before}
use Rattle.sim_model.specs.Setups.{Ascend}
use Rattle.sim_model.proofs.Ascending.{pairs_head, pairs_tail}
use Rattle.agenda.specs.declared.due.Due.{Due}
use Rattle.std.proofs.Common.{replicate}
use Rattle.std.proofs.lemmas.List.{length-map, length-replicate, map-append, map-set}
use Rattle.std.proofs.lemmas.Option.{slice_get-map, slice_get_within}
use Rattle.sim_base.specs.Room.{Room}
use Rattle.agenda.specs.Dues.{comes_before, due_at}
use Rattle.local_manager.proofs.Keeping.{Got, get_set, joined_ids, kept_lists, split_set}

pub split_none : {X : Type 0} (home : X → ℕ) → IsSplit home [] []
split_none home = λ m p e. absurd (cc)

pub split_push : {X : Type 0} (home : X → ℕ) (ps : List (List X)) → IsSplit home [] ps → IsSplit home [] (ps ++ [] ∷ [])
split_push {X} home ps s = λ m p e. deeper ps m p s e
  where
    deeper : (ps : List (List X)) (m : ℕ) (p : List X) → ((m : ℕ) (p : List X) → slice_get ps m ≡ Some p → p ≡ [])
        → slice_get (ps ++ [] ∷ []) m ≡ Some p → p ≡ []
    deeper [] zero p s e = cc
    deeper [] (suc m) p s e = absurd (cc)
    deeper (q ∷ qs) zero p s e = s 0 p e
    deeper (q ∷ qs) (suc m) p s e = deeper qs m p (λ n r h. s (suc n) r h) e

pub split_more : {X : Type 0} (home : X → ℕ) (all : List X) (ps : List (List X)) (x : X) (k : ℕ) (old : List X) → IsSplit home all ps → k ≡ home x
    → slice_get ps k ≡ Some old
    → IsSplit home (all ++ x ∷ []) (slice_set ps k (old ++ x ∷ []))
split_more home all ps x k old s same is =
    let mine : nat_eq (home x) k ≡ true = grind (arith, nat_tests, same) in
    split_set home all (all ++ x ∷ []) ps k (old ++ x ∷ []) s
    (ap (λ (l : List _). l ++ x ∷ []) (s k old is) ∙ sym (filter-append (λ y. nat_eq (home y) k) all (x ∷ []) ∙ rw mine))
    (λ m h. filter-append (λ y. nat_eq (home y) m) all (x ∷ []) ∙ rw (← same, h) (append-nil (filter (λ y. nat_eq (home y) m) all)))

precedes_all : (id : ActorId) (ids : List ActorId) → All (λ b. id.0 < b.0) ids → Precedes id_before id ids
precedes_all id [] h = tt
precedes_all id (b ∷ ids) h = let lt : id.0 < b.0 = All-head (λ (b : ActorId). id.0 < b.0) b ids h in
    (grind (arith, nat_tests, lt), precedes_all id ids (All-tail (λ (b : ActorId). id.0 < b.0) b ids h))

pub rises_ascend : (ids : List ActorId) → Ascend ids → IsRising id_before ids
rises_ascend [] h = tt
rises_ascend (id ∷ ids) h = (
  precedes_all id ids (pairs_head (λ (a b : ActorId). a.0 < b.0) id ids h),
  rises_ascend ids
      (pairs_tail (λ (a b : ActorId). a.0 < b.0) id ids h),
)

pub record Shared (homes loads : List ℕ) (agendas : List (List Due)) (lists : List (List ActorId)) (ids : List ActorId) : Type 0 where
  pub kept : Kept homes loads agendas lists
  pub scheduled : union id_before lists ≡ ids

pub shared : (homes loads : List ℕ) (agendas : List (List Due)) (old lists : List (List ActorId)) (ids : List ActorId) → Kept homes loads agendas old
    → length lists ≡ length agendas
    → IsSplit (home_of homes) ids lists → IsRising id_before ids → Shared homes loads agendas lists ids
shared homes loads agendas old lists ids k long s rises =
    let joined : union id_before lists ≡ ids = joined_ids homes (length agendas) ids lists (omega (arith, k.some)) k.places long rises s in
    record {
      kept = kept_lists homes loads agendas old lists k long (subst (λ (a : List ActorId). IsSplit (home_of homes) a lists) (sym joined) s);
      scheduled = joined;
    }

-- as many lists as before
pub lists_long : (old new : List (Room ActorId)) (agendas : List (List Due)) → length (map (λ r. r.list) old) ≡ length agendas → length new ≡ length old
    → length (map (λ r. r.list) new) ≡ length agendas
lists_long old new agendas each same =
    length-map {A = Room ActorId} new (λ r. r.list) ∙ same ∙ sym (length-map {A = Room ActorId} old (λ r. r.list)) ∙ each

-- one more manager, without anybody
pub split_pushed : (homes : List ℕ) (lists : List (Room ActorId)) (r : Room ActorId) → r.list ≡ [] → IsSplit (home_of homes) [] (map (λ r. r.list) lists)
    → IsSplit (home_of homes) [] (map (λ r. r.list) (lists ++ r ∷ []))
split_pushed homes lists r e s =
    let same : map {A = Room ActorId} (λ r. r.list) (lists ++ r ∷ []) ≡ map {A = Room ActorId} (λ r. r.list) lists ++ r.list ∷ [] =
    map-append {A = Room ActorId} (λ r. r.list) lists (r ∷ []) in
    rw (same, e) (split_push (home_of homes) (map {A = Room ActorId} (λ r. r.list) lists) s)

-- one more actor, at its manager
pub split_shared : (homes : List ℕ) (all : List ActorId) (lists : List (Room ActorId)) (id : ActorId) (k : ℕ) (old new : Room ActorId)
    → IsSplit (home_of homes) all (map (λ r. r.list) lists)
    → k ≡ home_of homes id → slice_get lists k ≡ Some old → new.list ≡ old.list ++ id ∷ []
    → IsSplit (home_of homes) (all ++ id ∷ []) (map (λ r. r.list) (slice_set lists k new))
split_shared homes all lists id k old new s same is e =
    let there : slice_get (map {A = Room ActorId} (λ r. r.list) lists) k ≡ Some old.list =
    slice_get-map {A = Room ActorId} (λ r. r.list) lists k ∙ rw is refl in
    rw (map-set {A = Room ActorId} (λ r. r.list) lists k new, e)
    (split_more (home_of homes) all (map {A = Room ActorId} (λ r. r.list) lists) id k old.list s same there)

-- ---- lists that a loop goes through

-- what holds of the first items holds of one more, which was written
pub below_written : {X : Type 0} (P : ℕ → X → Type 0) (xs : List X) (i : ℕ) (y : X)
    → ((k : ℕ) (x : X) → k < i → slice_get xs k ≡ Some x → P k x) → P i y
    → (k : ℕ) (x : X) → k < i + 1 → slice_get (slice_set xs i y) k ≡ Some x → P k x
below_written {X} P xs i y below here k x lt is = told (nat_eq i k) refl (get_set xs i k y x is (nat_eq i k) refl)
  where
    told : (b : Bool) → nat_eq i k ≡ b → Got xs k y x b → P k x
    told true h got =
        let at : i ≡ k = grind (arith, nat_tests, h) in
        subst (λ (n : ℕ). P n x) at (subst (λ (z : X). P i z) (sym got) here)
    told false h got =
        let apart : k < i = grind (arith, nat_tests, h, lt) in
        below k x apart got

-- what was written has the same value
pub same_written : {X Y : Type 0} (f : X → Y) (xs : List X) (i : ℕ) (y d : X) → f y ≡ f (get_or xs i d) → map f (slice_set xs i y) ≡ map f xs
same_written f [] i y d e = refl
same_written f (x ∷ xs) zero y d e = ap (λ z. z ∷ map f xs) e
same_written f (x ∷ xs) (suc i) y d e = ap (λ l. f x ∷ l) (same_written f xs i y d e)

-- what stands in the list of what the items are mapped to
got_mapped : {X Y : Type 0} (f : X → Y) (xs : List X) (m : ℕ) (y : Y) → slice_get (map f xs) m ≡ Some y
    → (x : X) × (slice_get xs m ≡ Some x) × (y ≡ f x)
got_mapped f [] m y e = absurd (cc)
got_mapped f (x ∷ xs) zero y e = (x, refl, cc)
got_mapped f (x ∷ xs) (suc m) y e = got_mapped f xs m y e

-- nobody stands in lists that are all empty
pub all_empty : (homes : List ℕ) (lists : List (Room ActorId)) (n : ℕ) → length lists ≤ n
    → ((k : ℕ) (r : Room ActorId) → k < n → slice_get lists k ≡ Some r → r.list ≡ []) → IsSplit (home_of homes) [] (map (λ r. r.list) lists)
all_empty homes lists n long empty = λ m p e.
    let found = got_mapped (λ (r : Room ActorId). r.list) lists m p e in
    found.2 ∙ empty m found.0 (omega (arith, long, slice_get_within lists m found.0 found.1)) found.1

-- what stood in the lists is what stands there
pub empty_still : (homes : List ℕ) (old new : List (Room ActorId)) → map (λ r. r.list) new ≡ map (λ r. r.list) old
    → IsSplit (home_of homes) [] (map (λ r. r.list) old) → IsSplit (home_of homes) [] (map (λ r. r.list) new)
empty_still homes old new same none = λ m p e. none m p (ap (λ (l : List (List ActorId)). slice_get l m) (sym same) ∙ e)

-- what is true is true of an Err
pub on_err : {A E : Type 0} {P : Type 0} (r : Result A E) → P → OnErr r P
on_err (Ok x) p = tt
on_err (Err e) p = p

-- ---- lists with room for those of a tick

abbrev pub HasRoom : ℕ → List (List Due) → ℕ → Room ActorId → Type 0
HasRoom tick domains m r = (p : List Due) → slice_get domains m ≡ Some p → length (due_at tick p) ≤ r.spare

-- lists that were empty, and have got room
pub have_room : (tick : ℕ) (domains : List (List Due)) (old new : List (Room ActorId))
    → map (λ r. r.list) new ≡ map (λ r. r.list) old → IsSplit (home_of []) [] (map (λ r. r.list) old)
    → ((m : ℕ) (p : List Due) (r : Room ActorId) → slice_get domains m ≡ Some p → slice_get new m ≡ Some r → length (due_at tick p) ≤ r.spare)
    → (m : ℕ) (p : List Due) (r : Room ActorId) → slice_get domains m ≡ Some p → slice_get new m ≡ Some r
    → (r.list ≡ []) × (length (due_at tick p) ≤ r.spare)
have_room tick domains old new same none room m p r e f =
    let there : slice_get (map {A = Room ActorId} (λ r. r.list) new) m ≡ Some r.list =
    slice_get-map {A = Room ActorId} (λ r. r.list) new m ∙ rw f refl in (
      empty_still [] old new same none m r.list there,
      room m p r e f,
    )

-- ---- nobody

union_none : {X : Type 0} (lt : X → X → Bool) (n : ℕ) → union lt (replicate n []) ≡ []
unfolding union
union_none lt zero = refl
union_none lt (suc n) = union_none lt n

got_none : {X : Type 0} (n m : ℕ) (p : List X) → slice_get (replicate n []) m ≡ Some p → p ≡ []
got_none zero m p e = absurd (cc)
got_none (suc n) zero p e = cc
got_none (suc n) (suc m) p e = got_none n m p e

zeros_below : (n : ℕ) → AllBelow 1 (replicate n 0)
zeros_below zero = tt
zeros_below (suc n) = (omega arith, zeros_below n)

pub record NobodyYet (n : ℕ) (lists : List (List ActorId)) : Type 0 where
  pub kept : Kept [] (replicate n 0) (replicate n []) lists
  pub agenda : union comes_before (replicate n []) ≡ []
  pub scheduled : union id_before lists ≡ []

pub nobody_yet : (n : ℕ) (lists : List (List ActorId)) → 1 ≤ n → n ≤ 16 → length lists ≡ n → ((homes : List ℕ) → IsSplit (home_of homes) [] lists)
    → NobodyYet n lists
nobody_yet n lists some few long empty =
    let none : union id_before lists ≡ [] = joined_ids [] n [] lists (omega (arith, some)) tt long tt (empty []) in
    let agenda : union comes_before (replicate n []) ≡ [] = union_none comes_before n in
    let parts : length (replicate {A = List Due} n []) ≡ n = length-replicate n [] in
    let loads : length (replicate n 0) ≡ n = length-replicate n 0 in
    record {
      kept = record {
        some = omega (arith, parts, some);
        few = omega (arith, parts, few);
        lists_each = long ∙ sym parts;
        loads_each = loads ∙ sym parts;
        places = tt;
        counts = zeros_below n;
        dues = λ m p e. got_none n m p e ∙ sym (ap (λ (l : List Due). at_home (home_of_due []) m l) agenda);
        ids = subst (λ (l : List ActorId). IsSplit (home_of []) l lists) (sym none) (empty []);
      };
      agenda = agenda;
      scheduled = none;
    }
