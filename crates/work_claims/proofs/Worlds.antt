-- A world that has entered a moment is placed.
use Rattle.std.proofs.Common.{◌≡◌, ◌≢◌, ℕ, zero, suc, ◌+◌, ◌-◌, ◌<◌, ◌≤◌, Bool, true, false, true≢false, cond, List, [], ◌∷◌, length, get_or, Option, Some, slice_get, sym, ap, ◌∙◌, arith}
use Rattle.sim_base.specs.declared.ids.ActorId.{ActorId}
use Rattle.actor_trait.specs.InboxOrder.{AreUrgent}
use Rattle.actor_trait.specs.Meaning.{Meaning}
use Rattle.local_manager.specs.Directories.{AllBelow, home_of}
use Rattle.local_manager.specs.Views.{WorldParts, managers_of, route_in, with_letters}
use Rattle.local_manager.specs.declared.phase.Phase.{Phase}
use Rattle.local_manager.specs.declared.phase.Phase.TheVariants.{Torn}
use Rattle.sim_model.specs.Moment.{is_alive}
use Rattle.sim_model.specs.Setups.{Ascend}
use Rattle.sim_model.specs.Whole.{AreLiving, IsWhole}
use Rattle.sim_model.proofs.Standing.{alive_numbered, alive_state, stands}
use Rattle.work_claims.specs.Placed.{IsPlaced}
use Rattle.work_claims.specs.Worlds.{is_entered, placed_in}

home_below : (n : ℕ) (homes : List ℕ) (k : ℕ) → 1 ≤ n → AllBelow n homes → get_or homes k 0 < n
home_below n [] k some h = omega arith
home_below n (x ∷ xs) zero some h = h.0
home_below n (x ∷ xs) (suc k) some h = home_below n xs k some h.1

-- a place that has an item is within
get_within : {X : Type 0} (xs : List X) (i : ℕ) (x : X) → slice_get xs i ≡ Some x → i < length xs
get_within [] i x e = cc
get_within (y ∷ ys) zero x e = omega arith
get_within (y ∷ ys) (suc i) x e = let lt = get_within ys i x e in omega arith

alive_within : {A : Type 0} (states : List (Option A)) (id : ActorId) → is_alive states id ≡ true → id.0 ≤ length states
alive_within states id h =
    let a = alive_state states id h in
    let lt = get_within states (id.0 - 1) (Some a.0) (stands states id a.0 a.1).at in omega arith

-- numbers that ascend are no less than their places
high : (ids : List ActorId) (d : ActorId) → Ascend ids → ((k : ℕ) → k < length ids → (get_or ids k d).0 ≢ 0) → (k : ℕ) → k < length ids → k + 1 ≤ (get_or ids k d).0
high ids d up some zero lt = let n = some 0 lt in omega arith
high ids d up some (suc k) lt = let r = high ids d up some k (omega arith) in let s = up k (suc k) d (omega arith) lt in omega arith

-- so there are no more living than numbers
living_few : {A : Type 0} (states : List (Option A)) (ids : List ActorId) → AreLiving states ids → length ids ≤ length states
living_few states [] living = omega arith
living_few states (x ∷ xs) living =
    let n : ℕ = length xs in
    let last = living.live n x (omega arith) in
    let up = high (x ∷ xs) x living.ascend (λ k lt. alive_numbered states (get_or (x ∷ xs) k x) (living.live k x lt)) n (omega arith) in
    let most = alive_within states (get_or (x ∷ xs) n x) last in omega arith

not_torn : (q : Phase) → is_entered q ≡ true → q ≢ Torn
not_torn q entered torn = true≢false (sym entered ∙ ap is_entered torn)

-- a world that has entered a moment is whole
whole_now : {A : Type 0} (m : Meaning A) (v : WorldParts A) → (v.phase ≢ Torn → IsWhole m (with_letters v.one [])) → is_entered v.phase ≡ true
    → IsWhole m (with_letters v.one [])
whole_now m v whole entered = whole (not_torn v.phase entered)

pub urgent_now : {A : Type 0} (m : Meaning A) (v : WorldParts A) → (v.phase ≢ Torn → IsWhole m (with_letters v.one [])) → is_entered v.phase ≡ true
    → AreUrgent v.one.parameters.urgent
urgent_now m v whole entered = (whole_now m v whole entered).parameters.urgent

pub placed_world : {A : Type 0} (m : Meaning A) (v : WorldParts A) → 1 ≤ managers_of v → managers_of v ≤ 16 → AllBelow (managers_of v) v.placed.homes
    → (v.phase ≢ Torn → IsWhole m (with_letters v.one [])) → is_entered v.phase ≡ true → IsPlaced (placed_in v)
placed_world {A} m v some few below whole entered = record {
  entered = entered;
  some_manager = some;
  few_managers = few;
  homes = λ id among. home_below (managers_of v) v.placed.homes (id.0 - 1) some below;
  routes = routes;
  ascend = (whole_now m v whole entered).scheduled.ascend;
  few_scheduled = let w = whole_now m v whole entered in
      let l = living_few v.one.states v.one.scheduled w.scheduled in let c = w.parameters.count in let n = w.parameters.max_actors in omega arith;
} where
  routes : (id : ActorId) → route_in v id < managers_of v
  routes id = told (is_alive v.one.states id) where
    told : (b : Bool) → cond b (home_of v.placed.homes id) 0 < managers_of v
    told true = home_below (managers_of v) v.placed.homes (id.0 - 1) some below
    told false = omega arith
