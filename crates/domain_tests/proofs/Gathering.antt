-- The reports of a moment, gathered by number.
use Rattle.std.proofs.Common.{◌≡◌, ℕ, suc, zero, ◌+◌, ◌<◌, ◌≤◌, Bool, true, false, ◌||◌, cond, nat_eq, nat_lt, Option, Some, List, [], ◌∷◌, ◌++◌}
use Rattle.std.proofs.Common.{length, get_or, map, None, refl, sym, ap, arith, ◌∙◌, subst}
use Rattle.std.proofs.lemmas.Bool.Decides.{nat_tests}
use Rattle.std.proofs.lemmas.List.Elements.{All-head, All-map, All-tail, All-weaker}
use Rattle.std.specs.List.Sorted.{IsStrictlyIncreasing}
use Rattle.std.specs.List.{All, filter, flat_map}
use Rattle.sim_base.specs.declared.ids.ActorId.{ActorId}
use Rattle.sim_base.specs.declared.moment.Moment.{Moment}
use Rattle.actor_trait.specs.Meaning.{Meaning}
use Rattle.actor_trait.specs.declared.letter.Letter.{Letter}
use Rattle.actor_lifecycle.specs.Settling.{settled, settled_by}
use Rattle.sim_model.specs.Births.{without_births}
use Rattle.sim_model.specs.Moment.{first_fault, is_alive, is_among, sends_of}
use Rattle.sim_model.specs.Whole.{IsWhole}
use Rattle.sim_model.specs.declared.births.Newborn.{Newborn}
use Rattle.sim_model.specs.declared.report.Fault.{Fault}
use Rattle.sim_model.specs.declared.report.Report.{Report}
use Rattle.sim_model.specs.declared.settled.Settled.TheVariants as becomes
use Rattle.sim_model.proofs.Acting.{ids_reported}
use Rattle.sim_model.proofs.Calm.{sends_fit}
use Rattle.sim_model.specs.Setups.{Ascend}
use Rattle.sim_model.proofs.Ascending.{pairs_head, pairs_tail, to_increasing}
use Rattle.sim_model.proofs.Sameness.{id_same}
use Rattle.local_manager.specs.Directories.{home_of}
use Rattle.local_manager.specs.Merged.{at_home}
use Rattle.local_manager.specs.Views.{CanEnter, IsNextFor, WorldParts, reports_now, route_in, scheduled_at, with_letters}
use Rattle.local_manager.specs.declared.phase.Phase.{Phase}
use Rattle.local_manager.specs.declared.phase.Phase.TheVariants.{Entered, Torn}
use Rattle.local_manager.proofs.Placing.{alive_within}
use Rattle.local_manager.proofs.Standing.{living_few}

abbrev the_id : ℕ → ActorId
the_id n = record { 0 = n }

-- those below a number
abbrev pub below : ℕ → List ActorId → List ActorId
below n ids = filter (λ k. nat_lt k.0 n) ids

none_below : (n : ℕ) (ids : List ActorId) → All (λ k. n ≤ k.0) ids → below n ids ≡ []
none_below n [] h = refl
none_below n (k ∷ ids) h =
    let past : n ≤ k.0 = All-head (λ (k : ActorId). n ≤ k.0) k ids h in
    let no : nat_lt k.0 n ≡ false = grind (arith, nat_tests, past) in
    rw no (none_below n ids (All-tail (λ (k : ActorId). n ≤ k.0) k ids h))

none_among : (n : ℕ) (ids : List ActorId) → All (λ k. n < k.0) ids → is_among ids (the_id n) ≡ false
none_among n [] h = refl
none_among n (k ∷ ids) h =
    let past : n < k.0 = All-head (λ (k : ActorId). n < k.0) k ids h in
    let no : nat_eq k.0 n ≡ false = grind (arith, nat_tests, past) in
    rw no (none_among n ids (All-tail (λ (k : ActorId). n < k.0) k ids h))

-- the next one, if it is among them
pub below_more : (n : ℕ) (ids : List ActorId) → Ascend ids → below (n + 1) ids ≡ below n ids ++ cond (is_among ids (the_id n)) (the_id n ∷ []) []
below_more n [] up = refl
below_more n (k ∷ ids) up = by (nat_lt k.0 n) (nat_eq k.0 n) (nat_lt k.0 (n + 1)) refl refl refl
    (below_more n ids (pairs_tail (λ (a b : ActorId). a.0 < b.0) k ids up))
  where
    above : All (λ b. k.0 < b.0) ids
    above = pairs_head (λ (a b : ActorId). a.0 < b.0) k ids up

    by : (b c d : Bool) → nat_lt k.0 n ≡ b → nat_eq k.0 n ≡ c → nat_lt k.0 (n + 1) ≡ d
        → below (n + 1) ids ≡ below n ids ++ cond (is_among ids (the_id n)) (the_id n ∷ []) []
        → cond d (k ∷ below (n + 1) ids) (below (n + 1) ids) ≡ cond b (k ∷ below n ids) (below n ids) ++ cond (c || is_among ids (the_id n)) (the_id n ∷ []) []
    by true true d e f g h = absurd (grind (arith, nat_tests, e, f))
    by true false true e f g h = ap (λ l. k ∷ l) h
    by true false false e f g h = absurd (grind (arith, nat_tests, e, g))
    by false true true e f g h =
        let same : k.0 ≡ n = grind (arith, nat_tests, f) in
        let is : k ≡ the_id n = id_same k (the_id n) same in
        let later : below (n + 1) ids ≡ [] = none_below (n + 1) ids
        (All-weaker (λ (b : ActorId). k.0 < b.0) (λ (b : ActorId). n + 1 ≤ b.0) (λ b lt. omega (arith, lt, same)) ids above) in
        let none : below n ids ≡ [] = none_below n ids (All-weaker (λ (b : ActorId). k.0 < b.0) (λ (b : ActorId). n ≤ b.0)
        (λ b lt. omega (arith, lt, same)) ids above) in
        rw (later, none) (ap (λ (a : ActorId). a ∷ []) is)
    by false true false e f g h = absurd (grind (arith, nat_tests, f, g))
    by false false true e f g h = absurd (grind (arith, nat_tests, e, f, g))
    by false false false e f g h =
        let past : n < k.0 = grind (arith, nat_tests, e, f) in
        h

pub below_all : (n : ℕ) (ids : List ActorId) → All (λ k. k.0 < n) ids → below n ids ≡ ids
below_all n [] h = refl
below_all n (k ∷ ids) h =
    let lt : k.0 < n = All-head (λ (k : ActorId). k.0 < n) k ids h in
    let yes : nat_lt k.0 n ≡ true = grind (arith, nat_tests, lt) in
    rw yes (ap (λ l. k ∷ l) (below_all n ids (All-tail (λ (k : ActorId). k.0 < n) k ids h)))

some_number : {A : Type 0} (states : List (Option A)) (id : ActorId) → is_alive states id ≡ true → 0 < id.0
some_number {A} states id h = by id.0 refl
  where
    by : (n : ℕ) → id.0 ≡ n → 0 < id.0
    by zero e = let none : is_alive states (record { 0 = 0 }) ≡ true = subst (λ (k : ℕ). is_alive states (record { 0 = k }) ≡ true) e h in absurd (cc)
    by (suc n) e = omega (arith, e)

pub below_first : {A : Type 0} (states : List (Option A)) (ids : List ActorId) → All (λ id. is_alive states id ≡ true) ids → below 1 ids ≡ []
below_first states ids live =
    none_below 1 ids (All-weaker (λ (id : ActorId). is_alive states id ≡ true) (λ (id : ActorId). 1 ≤ id.0)
    (λ id e. omega (arith, some_number states id e)) ids live)

pub below_last : {A : Type 0} (states : List (Option A)) (ids : List ActorId) → All (λ id. is_alive states id ≡ true) ids → below (length states + 1) ids ≡ ids
below_last states ids live =
    below_all (length states + 1) ids
    (All-weaker (λ (id : ActorId). is_alive states id ≡ true) (λ (id : ActorId). id.0 < length states + 1)
    (λ id e. omega (arith, alive_within states id e)) ids live)

-- ---- who is scheduled is scheduled at its manager

at_own : (homes : List ℕ) (ids : List ActorId) (id : ActorId) → is_among (at_home (home_of homes) (home_of homes id) ids) id ≡ is_among ids id
at_own homes [] id = refl
at_own homes (k ∷ ids) id = by (nat_eq k.0 id.0) (nat_eq (home_of homes k) (home_of homes id)) refl refl (at_own homes ids id)
  where
    by : (b c : Bool) → nat_eq k.0 id.0 ≡ b → nat_eq (home_of homes k) (home_of homes id) ≡ c
        → is_among (at_home (home_of homes) (home_of homes id) ids) id ≡ is_among ids id
        → is_among (cond c (k ∷ at_home (home_of homes) (home_of homes id) ids) (at_home (home_of homes) (home_of homes id) ids)) id ≡ (b || is_among ids id)
    by true true e f h = rw e refl
    by true false e f h =
        let same : k ≡ id = id_same k id (grind (arith, nat_tests, e)) in
        let home : nat_eq (home_of homes k) (home_of homes id) ≡ true =
        subst (λ (a : ActorId). nat_eq (home_of homes k) (home_of homes a) ≡ true) same (grind (arith, nat_tests)) in
        absurd (cc (f, home))
    by false true e f h = rw e h
    by false false e f h = h

gone_none : {A : Type 0} (states : List (Option A)) (ids : List ActorId) (id : ActorId) → All (λ k. is_alive states k ≡ true) ids
    → is_alive states id ≡ false → is_among ids id ≡ false
gone_none states [] id live gone = refl
gone_none {A} states (k ∷ ids) id live gone = by (nat_eq k.0 id.0) refl
    (gone_none states ids id (All-tail (λ (k : ActorId). is_alive states k ≡ true) k ids live) gone)
  where
    by : (b : Bool) → nat_eq k.0 id.0 ≡ b → is_among ids id ≡ false → (b || is_among ids id) ≡ false
    by true e h =
        let same : k ≡ id = id_same k id (grind (arith, nat_tests, e)) in
        let lives : is_alive states k ≡ true = All-head (λ (k : ActorId). is_alive states k ≡ true) k ids live in
        let no : is_alive states k ≡ false = subst (λ (a : ActorId). is_alive states a ≡ false) (sym same) gone in
        absurd (cc (lives, no))
    by false e h = h

-- one that isn't scheduled where it is routed isn't scheduled
pub nowhere : {A : Type 0} (v : WorldParts A) (id : ActorId) → All (λ k. is_alive v.one.states k ≡ true) v.one.scheduled
    → is_among (scheduled_at v (route_in v id)) id ≡ false
    → is_among v.one.scheduled id ≡ false
nowhere {A} v id live none = by (is_alive v.one.states id) refl none
  where
    by : (b : Bool) → is_alive v.one.states id ≡ b → is_among (scheduled_at v (cond b (home_of v.placed.homes id) 0)) id ≡ false
        → is_among v.one.scheduled id ≡ false
    by true e h = sym (at_own v.placed.homes v.one.scheduled id) ∙ h
    by false e h = gone_none v.one.states v.one.scheduled id live e

pub filtered_among : (p : ActorId → Bool) (ids : List ActorId) (id : ActorId) (i : ℕ) (d : ActorId) → i < length (filter p ids)
    → get_or (filter p ids) i d ≡ id → is_among ids id ≡ true
filtered_among p [] id i d lt e = absurd (omega (arith, lt))
filtered_among p (k ∷ ids) id i d lt e = by (p k) (nat_eq k.0 id.0) i refl (λ j less is. filtered_among p ids id j d less is) lt e
  where
    by : (b c : Bool) (i : ℕ) → nat_eq k.0 id.0 ≡ c → ((j : ℕ) → j < length (filter p ids) → get_or (filter p ids) j d ≡ id → is_among ids id ≡ true)
        → i < length (cond b (k ∷ filter p ids) (filter p ids)) → get_or (cond b (k ∷ filter p ids) (filter p ids)) i d ≡ id → (c || is_among ids id) ≡ true
    by b true i f more lt e = refl
    by true false zero f more lt e = let yes : nat_eq k.0 id.0 ≡ true =
        subst (λ (a : ActorId). nat_eq k.0 a.0 ≡ true) e (grind (arith, nat_tests)) in absurd (cc (yes, f))
    by true false (suc i) f more lt e = more i (omega (arith, lt)) e
    by false false i f more lt e = more i lt e

-- ---- what the calls of a moment ask

pub entered_stands : (p : Phase) → p ≡ Entered → p ≡ Torn → ⊥
entered_stands p e t = cc

-- a world that can enter a moment stands
pub can_stand : {A : Type 0} (v : WorldParts A) (at : Moment) → CanEnter v at → v.phase ≡ Torn → ⊥
can_stand v at can e = subst (λ (p : Phase). IsNextFor p v.one v.moment at) e can

shorter : {X : Type 0} (p : X → Bool) (xs : List X) → length (filter p xs) ≤ length xs
shorter p [] = omega arith
shorter {X} p (x ∷ xs) = by (p x) (shorter p xs)
  where
    by : (b : Bool) → length (filter p xs) ≤ length xs → length (cond b (x ∷ filter p xs) (filter p xs)) ≤ suc (length xs)
    by true h = omega (arith, h)
    by false h = omega (arith, h)

pub few_at : {A : Type 0} (m : Meaning A) (v : WorldParts A) (at : ℕ) → IsWhole m (with_letters v.one []) → length (scheduled_at v at) ≤ 1000000
few_at m v at whole =
    omega (
      arith,
      shorter (λ id. nat_eq (home_of v.placed.homes id) at) v.one.scheduled,
      living_few v.one.states v.one.scheduled whole.scheduled,
      whole.parameters.count,
      whole.parameters.max_actors,
    )

numbers : {A : Type 0} (rs : List (Report A)) → map (λ a. a.0) (map (λ r. r.id) rs) ≡ map (λ r. r.id.0) rs
numbers [] = refl
numbers (r ∷ rs) = ap (λ l. r.id.0 ∷ l) (numbers rs)

pub reports_ascend : {A : Type 0} (m : Meaning A) (v : WorldParts A) → IsWhole m (with_letters v.one [])
    → IsStrictlyIncreasing (map (λ r. r.id.0) (reports_now m v))
reports_ascend m v whole =
    let told : map (λ a. a.0) (map (λ r. r.id) (reports_now m v)) ≡ map (λ a. a.0) v.one.scheduled =
    ap (λ ids. map (λ a. a.0) ids) (ids_reported m v.one v.moment v.one.scheduled whole.scheduled.live) in
    subst IsStrictlyIncreasing (sym told ∙ numbers (reports_now m v)) (to_increasing v.one.scheduled whole.scheduled.ascend)

pub record IsCalmOf {A : Type 0} (m : Meaning A) (max next : ℕ) (at : Moment) (rs kept : List (Report A)) : Type 0 where
  pub none : first_fault m max next at rs ≡ None
  pub emptied : kept ≡ map without_births rs
  pub few : All (λ r. length r.outcome.sends ≤ 1024) kept

-- where nobody shows a fault
pub calm_of : {A : Type 0} (m : Meaning A) (max next : ℕ) (at : Moment) (rs kept : List (Report A)) (born : List (Newborn A)) (letters : List Letter)
    (ids : List ActorId)
    → becomes.Settled kept born letters ids ≡ settled m max next at rs → IsCalmOf m max next at rs kept
calm_of {A} m max next at rs kept born letters ids e = by (first_fault m max next at rs) refl e
  where
    by : (o : Option Fault) → first_fault m max next at rs ≡ o → becomes.Settled kept born letters ids ≡ settled_by m next rs o → IsCalmOf m max next at rs kept
    by (Some f) g h = absurd (cc)
    by None g h =
        let same : kept ≡ map without_births rs = cc in
        record {
          none = g;
          emptied = same;
          few = subst (λ (l : List (Report A)). All (λ (r : Report A). length r.outcome.sends ≤ 1024) l) (sym same)
              (All-map (λ (r : Report A). length r.outcome.sends ≤ 1024) without_births rs (sends_fit m max next at rs g));
        }

pub same_sends : {A : Type 0} (rs : List (Report A)) → flat_map sends_of (map without_births rs) ≡ flat_map sends_of rs
same_sends [] = refl
same_sends (r ∷ rs) = ap (λ (l : List Letter). sends_of r ++ l) (same_sends rs)
