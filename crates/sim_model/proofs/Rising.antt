-- Agendas in which no tick is below the one before it.
use Rattle.std.proofs.Common.{◌≡◌, ℕ, suc, ◌<◌, ◌≤◌, Bool, true, false, not, ◌||◌, cond, nat_eq, nat_le, List, [], ◌∷◌, length, Option}
use Rattle.std.proofs.Common.{Some, None, arith, refl}
use Rattle.std.specs.List.{filter}
use Rattle.std.proofs.lemmas.Bool.Decides.{nat_tests}
use Rattle.sim_base.specs.declared.ids.ActorId.{ActorId}
use Rattle.actor_trait.specs.Faults.{asks_past}
use Rattle.agenda.specs.Dues.{add_due, comes_before, due_at, without_tick}
use Rattle.agenda.specs.declared.due.Due.{Due}
use Rattle.sim_model.specs.Moment.{ask}
use Rattle.sim_model.specs.Stepping.{RisesFrom, first_at, rest_at}

pub rises_from : (m n : ℕ) (ds : List Due) → m ≤ n → RisesFrom n ds → RisesFrom m ds
rises_from m n [] le h = tt
rises_from m n (d ∷ ds) le h = (omega (arith, h.0), h.1)

pub filter_rises : (p : Due → Bool) (m : ℕ) (ds : List Due) → RisesFrom m ds → RisesFrom m (filter p ds)
filter_rises p m [] h = tt
filter_rises p m (d ∷ ds) h =
    elim (p d) as (λ b. RisesFrom m (cond b (d ∷ filter p ds) (filter p ds))) [
      | true ↦ (h.0, filter_rises p d.tick ds h.1)
      | false ↦ rises_from m d.tick (filter p ds) h.0 (filter_rises p d.tick ds h.1)
    ]

-- what is left of a tick's agenda is later
pub without_rises : (t : ℕ) (ds : List Due) → RisesFrom t ds → RisesFrom (suc t) (without_tick t ds)
without_rises t [] h = tt
without_rises t (d ∷ ds) h = kept (nat_eq d.tick t) refl (λ g. without_rises t ds g) where
  kept : (b : Bool) → nat_eq d.tick t ≡ b → (RisesFrom t ds → RisesFrom (suc t) (without_tick t ds))
      → RisesFrom (suc t) (cond (not b) (d ∷ without_tick t ds) (without_tick t ds))
  kept true e more = let same : d.tick ≡ t = grind (arith, nat_tests) in more (rw same at h.1)
  kept false e more = let later : suc t ≤ d.tick = grind (arith, nat_tests, h.0) in (later, filter_rises _ d.tick ds h.1)

-- ---- taking out what is due

-- what the first that is due at a tick leaves
pub record TakesFirst (t : ℕ) (ds rest : List Due) (a : ActorId) : Type 0 where
  pub rises : RisesFrom t rest
  pub due : due_at t ds ≡ a ∷ due_at t rest
  pub without : without_tick t ds ≡ without_tick t rest
  pub shorter : length rest < length ds

pub takes_first : (t : ℕ) (ds : List Due) (a : ActorId) → RisesFrom t ds → first_at t ds ≡ Some a → TakesFirst t ds (rest_at t ds) a
takes_first t [] a h e = cc
takes_first t (d ∷ ds) a h e = told (nat_eq d.tick t) refl e where
  told : (b : Bool) → nat_eq d.tick t ≡ b → cond b (Some d.actor) None ≡ Some a → TakesFirst t (d ∷ ds) (cond b ds (d ∷ ds)) a
  told true is s =
      let same : d.tick ≡ t = grind (arith, nat_tests) in
      let actor : d.actor ≡ a = cc in
      record {
        rises = rw same at h.1;
        due = rw (is, actor) refl;
        without = rw is refl;
        shorter = omega arith;
      }
  told false is s = cc

-- where the first isn't due at this tick, nothing is
pub record TakesNone (t : ℕ) (ds : List Due) : Type 0 where
  pub due : due_at t ds ≡ []
  pub rest : rest_at t ds ≡ ds
  pub without : without_tick t ds ≡ ds

later_due : (t : ℕ) (ds : List Due) → RisesFrom (suc t) ds → due_at t ds ≡ []
later_due t [] h = refl
later_due t (d ∷ ds) h =
    let apart : nat_eq d.tick t ≡ false = grind (arith, nat_tests, h.0) in
    rw apart (later_due t ds (rises_from (suc t) d.tick ds h.0 h.1))

later_without : (t : ℕ) (ds : List Due) → RisesFrom (suc t) ds → without_tick t ds ≡ ds
later_without t [] h = refl
later_without t (d ∷ ds) h =
    let apart : nat_eq d.tick t ≡ false = grind (arith, nat_tests, h.0) in
    rw (apart, later_without t ds (rises_from (suc t) d.tick ds h.0 h.1)) refl

pub takes_none : (t : ℕ) (ds : List Due) → RisesFrom t ds → first_at t ds ≡ None → TakesNone t ds
takes_none t [] h e = record { due = refl; rest = refl; without = refl }
takes_none t (d ∷ ds) h e = told (nat_eq d.tick t) refl e where
  told : (b : Bool) → nat_eq d.tick t ≡ b → ◌≡◌ {A = Option ActorId} (cond b (Some d.actor) None) None → TakesNone t (d ∷ ds)
  told true is n = cc
  told false is n =
      let later : suc t ≤ d.tick = grind (arith, nat_tests, h.0) in
      record { due = later_due t (d ∷ ds) (later, h.1); rest = rw is refl; without = later_without t (d ∷ ds) (later, h.1) }

-- ---- adding

pub add_due_rises : (m : ℕ) (d : Due) (ds : List Due) → m ≤ d.tick → RisesFrom m ds → RisesFrom m (add_due d ds)
add_due_rises m d [] le h = (le, tt)
add_due_rises m d (x ∷ xs) le h = placed (comes_before d x) (comes_before x d) refl refl (λ g. add_due_rises x.tick d xs g h.1) where
  placed : (b c : Bool) → comes_before d x ≡ b → comes_before x d ≡ c → (x.tick ≤ d.tick → RisesFrom x.tick (add_due d xs))
      → RisesFrom m (cond b (d ∷ x ∷ xs) (cond c (x ∷ add_due d xs) (x ∷ xs)))
  placed true c e f more = let low : d.tick ≤ x.tick = grind (arith, nat_tests, e) in (le, (low, h.1))
  placed false true e f more = let high : x.tick ≤ d.tick = grind (arith, nat_tests, f) in (h.0, more high)
  placed false false e f more = h

-- where nobody asks for a tick that isn't later, the ticks are later
pub ask_rises : (now : ℕ) (id : ActorId) (ticks : List ℕ) (ds : List Due)
    → asks_past now ticks ≡ false → RisesFrom (suc now) ds → RisesFrom (suc now) (ask id ds ticks)
ask_rises now id [] ds none h = h
ask_rises now id (t ∷ ticks) ds none h = told (nat_le t now) refl none (λ g le. ask_rises now id ticks _ g (add_due_rises (suc now) _ ds le h)) where
  told : (b : Bool) → nat_le t now ≡ b → (b || asks_past now ticks) ≡ false
      → (asks_past now ticks ≡ false → suc now ≤ t → RisesFrom (suc now) (ask id (add_due (record { tick = t; actor = id }) ds) ticks))
      → RisesFrom (suc now) (ask id (add_due (record { tick = t; actor = id }) ds) ticks)
  told true e none2 more = cc
  told false e none2 more = let le : suc now ≤ t = grind (arith, nat_tests, e) in more none2 le
