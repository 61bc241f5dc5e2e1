-- What holds of a world between two calls.
use Rattle.std.proofs.Common.{◌≡◌, ◌≢◌, ℕ, ◌+◌, ◌-◌, ◌<◌, ◌≤◌, suc, zero, nat_eq, Bool, true, false, cond, List, [], ◌∷◌, Option, length, refl, arith, subst}
use Rattle.std.proofs.lemmas.List.Elements.{All-filter, All-head, All-tail, All-weaker}
use Rattle.std.specs.List.{All}
use Rattle.sim_base.specs.declared.ids.ActorId.{ActorId}
use Rattle.actor_trait.specs.Meaning.{Meaning}
use Rattle.actor_trait.specs.declared.letter.Letter.{Letter}
use Rattle.inbox_store.specs.Letters.{Letters}
use Rattle.sim_model.specs.Moment.{is_alive}
use Rattle.sim_model.specs.Setups.{Ascend}
use Rattle.sim_model.specs.Whole.{AreLiving}
use Rattle.sim_model.proofs.Ascending.{pairs_head, pairs_tail}
use Rattle.local_manager.specs.Directories.{AllBelow, home_of}
use Rattle.local_manager.specs.Views.{IsSoundIn, IsUpright, WorldParts, actor_at, managers_of, route_in, scheduled_at}
use Rattle.local_manager.specs.declared.opened.Span.{Span}
use Rattle.local_manager.specs.declared.phase.Phase.{Phase}
use Rattle.local_manager.specs.declared.phase.Phase.TheVariants.{Opening, Entered, Closed, Torn}
use Rattle.local_manager.proofs.Keeping.{below_at}
use Rattle.local_manager.proofs.Placing.{alive_within}

pub upright_in : {A : Type 0} (p : Phase) (m : Meaning A) (v : WorldParts A) (store : Letters) (opened : List Letter) (spans : List Span)
    (due creators : List ActorId)
    → p ≢ Torn → IsSoundIn p m v store opened spans due creators → IsUpright m v
upright_in Opening m v store opened spans due creators n s = s.upright
upright_in Entered m v store opened spans due creators n s = s.upright
upright_in Closed m v store opened spans due creators n s = s.upright
upright_in Torn m v store opened spans due creators n s = absurd (n refl)

-- a scheduled actor lives
pub scheduled_lives : {A : Type 0} (m : Meaning A) (v : WorldParts A) (at i : ℕ) → IsUpright m v → i < length (scheduled_at v at)
    → is_alive v.one.states (actor_at v at i) ≡ true
scheduled_lives m v at i h lt =
    All-filter (λ id. nat_eq (home_of v.placed.homes id) at) (λ id. is_alive v.one.states id ≡ true) v.one.scheduled h.whole.scheduled.live i
    (record { 0 = 0 }) lt

-- ---- ascending ids of so many actors are no more than those

counted : (k n : ℕ) (ids : List ActorId) → Ascend ids → All (λ id. k < id.0) ids → All (λ id. id.0 ≤ n) ids → k ≤ n → length ids + k ≤ n
counted k n [] up low high le = omega (arith, le)
counted k n (id ∷ ids) up low high le =
    let first : k < id.0 = All-head (λ (id : ActorId). k < id.0) id ids low in
    let last : id.0 ≤ n = All-head (λ (id : ActorId). id.0 ≤ n) id ids high in
    let rest : length ids + id.0 ≤ n = counted id.0 n ids (pairs_tail (λ (a b : ActorId). a.0 < b.0) id ids up)
    (pairs_head (λ (a b : ActorId). a.0 < b.0) id ids up) (All-tail (λ (id : ActorId). id.0 ≤ n) id ids high) last in
    omega (arith, first, rest)

some_number : {A : Type 0} (states : List (Option A)) (id : ActorId) → is_alive states id ≡ true → 0 < id.0
some_number {A} states id h = by id.0 refl
  where
    by : (n : ℕ) → id.0 ≡ n → 0 < id.0
    by zero e = let none : is_alive states (record { 0 = 0 }) ≡ true = subst (λ (k : ℕ). is_alive states (record { 0 = k }) ≡ true) e h in absurd (cc)
    by (suc n) e = omega (arith, e)

pub living_few : {A : Type 0} (states : List (Option A)) (ids : List ActorId) → AreLiving states ids → length ids ≤ length states
living_few {A} states ids h =
    let low : All (λ (id : ActorId). 0 < id.0) ids = All-weaker (λ (id : ActorId). is_alive states id ≡ true) (λ (id : ActorId). 0 < id.0)
    (λ id e. some_number states id e) ids h.live in
    let high : All (λ (id : ActorId). id.0 ≤ length states) ids =
    All-weaker (λ (id : ActorId). is_alive states id ≡ true) (λ (id : ActorId). id.0 ≤ length states)
    (λ id e. omega (arith, alive_within states id e)) ids h.live in
    omega (arith, counted 0 (length states) ids h.ascend low high (omega arith))

pub scheduled_few : {A : Type 0} (m : Meaning A) (v : WorldParts A) → IsUpright m v → length v.one.scheduled ≤ 1000000
scheduled_few m v h = omega (arith, living_few v.one.states v.one.scheduled h.whole.scheduled, h.whole.parameters.count, h.whole.parameters.max_actors)

-- one manager has all
pub one_home : {A : Type 0} (v : WorldParts A) (id : ActorId) → managers_of v ≡ 1 → AllBelow (managers_of v) v.placed.homes → 0 ≡ route_in v id
one_home v id one below = by (is_alive v.one.states id)
  where
    by : (b : Bool) → 0 ≡ cond b (home_of v.placed.homes id) 0
    by true = let fits = below_at (managers_of v) v.placed.homes (id.0 - 1) (omega (arith, one)) below in omega (arith, one, fits)
    by false = refl
