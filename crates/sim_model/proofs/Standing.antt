-- Who is alive, through the changes of a moment.
use Rattle.std.proofs.Common.{◌≡◌, ◌≢◌, ℕ, zero, suc, ◌+◌, ◌-◌, ◌<◌, ◌≤◌, Bool, true, false, ◌||◌, cond, nat_eq, List, [], ◌∷◌, ◌++◌}
use Rattle.std.proofs.Common.{length, map, slice_get, slice_set, Option, Some, None, is_some, arith, append_assoc, length-append, refl, ap}
use Rattle.std.proofs.Common.{sym, ◌∙◌, subst}
use Rattle.std.specs.List.{All, filter, fold}
use Rattle.std.specs.Option.{option_flatten}
use Rattle.std.proofs.lemmas.Bool.Decides.{nat_tests}
use Rattle.std.proofs.lemmas.List.Elements.{All-nil, All-cons, All-weaker}
use Rattle.std.proofs.lemmas.List.Kept.{AllPairs-cons}
use Rattle.sim_base.specs.declared.ids.ActorId.{ActorId}
use Rattle.sim_model.specs.Moment.{is_alive, is_among, living_from, put_state, retired, state_of}
use Rattle.sim_model.specs.Setups.{Ascend}
use Rattle.sim_model.specs.Whole.{AreLiving}
use Rattle.sim_model.specs.declared.report.Report.{Report}
use Rattle.sim_model.proofs.Ascending.{pairs_nil}

-- ---- an element of a list

pub get_set_same : {X : Type 0} (xs : List X) (i : ℕ) (v x : X) → slice_get xs i ≡ Some x → slice_get (slice_set xs i v) i ≡ Some v
get_set_same [] i v x e = cc
get_set_same (y ∷ ys) zero v x e = refl
get_set_same (y ∷ ys) (suc i) v x e = get_set_same ys i v x e

pub get_set_other : {X : Type 0} (xs : List X) (i j : ℕ) (v : X) → i ≢ j → slice_get (slice_set xs i v) j ≡ slice_get xs j
get_set_other [] i j v ne = refl
get_set_other (y ∷ ys) zero zero v ne = absurd (ne refl)
get_set_other (y ∷ ys) zero (suc j) v ne = refl
get_set_other (y ∷ ys) (suc i) zero v ne = refl
get_set_other (y ∷ ys) (suc i) (suc j) v ne = get_set_other ys i j v (λ e. ne (ap (λ n. suc n) e))

pub get_append : {X : Type 0} (xs ys : List X) (i : ℕ) (x : X) → slice_get xs i ≡ Some x → slice_get (xs ++ ys) i ≡ Some x
get_append [] ys i x e = cc
get_append (z ∷ zs) ys zero x e = e
get_append (z ∷ zs) ys (suc i) x e = get_append zs ys i x e

pub get_end : {X : Type 0} (xs : List X) (y : X) (ys : List X) → slice_get (xs ++ y ∷ ys) (length xs) ≡ Some y
get_end [] y ys = refl
get_end (x ∷ xs) y ys = get_end xs y ys

-- ---- the state of an actor

-- a living actor's number is its place and one more
pub record Stands {A : Type 0} (states : List (Option A)) (id : ActorId) (a : A) : Type 0 where
  pub numbered : id.0 ≢ 0
  pub at : slice_get states (id.0 - 1) ≡ Some (Some a)

pub stands : {A : Type 0} (states : List (Option A)) (id : ActorId) (a : A) → state_of states id ≡ Some a → Stands states id a
stands {A} states id a e = told (nat_eq id.0 0) (slice_get states (id.0 - 1)) refl refl e where
  told : (b : Bool) (o : Option (Option A)) → nat_eq id.0 0 ≡ b → slice_get states (id.0 - 1) ≡ o → cond b None (option_flatten o) ≡ Some a
      → Stands states id a
  told true o t g h = cc
  told false None t g h = cc
  told false (Some s) t g h = record { numbered = λ z. grind (arith, nat_tests, t, z); at = g ∙ ap (λ s. Some s) h }

pub state_from : {A : Type 0} (states : List (Option A)) (id : ActorId) (a : A) → Stands states id a → state_of states id ≡ Some a
state_from states id a h =
    let apart : nat_eq id.0 0 ≡ false = grind (arith, nat_tests, h.numbered) in
    rw (apart, h.at) refl

pub alive_state : {A : Type 0} (states : List (Option A)) (id : ActorId) → is_alive states id ≡ true → (a : A) × (state_of states id ≡ Some a)
alive_state {A} states id h = told (state_of states id) refl h where
  told : (o : Option A) → state_of states id ≡ o → is_some o ≡ true → (a : A) × (state_of states id ≡ Some a)
  told None e t = cc
  told (Some a) e t = (a, e)

pub state_alive : {A : Type 0} (states : List (Option A)) (id : ActorId) (a : A) → state_of states id ≡ Some a → is_alive states id ≡ true
state_alive states id a e = ap (λ o. is_some o) e

pub alive_numbered : {A : Type 0} (states : List (Option A)) (id : ActorId) → is_alive states id ≡ true → id.0 ≢ 0
alive_numbered states id h = let a = alive_state states id h in (stands states id a.0 a.1).numbered

pub alive_append : {A : Type 0} (states more : List (Option A)) (id : ActorId) → is_alive states id ≡ true → is_alive (states ++ more) id ≡ true
alive_append {A} states more id h =
    let a = alive_state states id h in
    let s = stands states id a.0 a.1 in
    state_alive (states ++ more) id a.0
    (state_from (states ++ more) id a.0 (record { numbered = s.numbered; at = get_append states more (id.0 - 1) (Some a.0) s.at }))

-- the one whose state comes next
pub alive_next : {A : Type 0} (states more : List (Option A)) (id : ActorId) (a : A) → id.0 ≡ length states + 1
    → is_alive (states ++ Some a ∷ more) id ≡ true
alive_next {A} states more id a e =
    let place : id.0 - 1 ≡ length states = omega (arith, e) in
    state_alive (states ++ Some a ∷ more) id a
    (state_from (states ++ Some a ∷ more) id a (record { numbered = λ z. omega (arith, e, z); at = rw place (get_end states (Some a) more) }))

-- ---- those that act

-- one that doesn't retire stays alive, and the others stay as they are
pub put_keeps : {A : Type 0} (states : List (Option A)) (r : Report A) (id : ActorId) → is_alive states id ≡ true
    → (r.outcome.retire ≡ true → r.id.0 ≢ id.0) → is_alive (put_state states r) id ≡ true
put_keeps {A} states r id h goes = told (nat_eq r.id.0 0) refl where
  a : (a : A) × (state_of states id ≡ Some a)
  a = alive_state states id h

  s : Stands states id a.0
  s = stands states id a.0 a.1

  next : Option A
  next = cond r.outcome.retire None (Some r.outcome.state)

  placed : (b c : Bool) → nat_eq r.id.0 0 ≡ false → nat_eq r.id.0 id.0 ≡ b → r.outcome.retire ≡ c
      → is_alive (slice_set states (r.id.0 - 1) (cond c None (Some r.outcome.state))) id ≡ true
  placed true true z e t = absurd (goes t (grind (arith, nat_tests, e)))
  placed true false z e t =
      let same : r.id.0 - 1 ≡ id.0 - 1 = grind (arith, nat_tests, e) in
      state_alive _ id r.outcome.state (state_from _ id r.outcome.state
      (record { numbered = s.numbered; at = rw same (get_set_same states (id.0 - 1) (Some r.outcome.state) (Some a.0) s.at) }))
  placed false c z e t =
      let apart : (r.id.0 - 1) ≢ (id.0 - 1) = λ q. grind (arith, nat_tests, e, z, s.numbered, q) in
      state_alive _ id a.0 (state_from _ id a.0
      (record { numbered = s.numbered; at = get_set_other states (r.id.0 - 1) (id.0 - 1) (cond c None (Some r.outcome.state)) apart ∙ s.at }))

  told : (b : Bool) → nat_eq r.id.0 0 ≡ b → is_alive (cond b states (slice_set states (r.id.0 - 1) next)) id ≡ true
  told true e = h
  told false e = placed (nat_eq r.id.0 id.0) r.outcome.retire e refl refl

pub either_false : (b c : Bool) → (b || c) ≡ false → (b ≡ false) × (c ≡ false)
either_false true c e = cc
either_false false c e = (refl, e)

-- who isn't among those that retire stays alive
pub puts_keep : {A : Type 0} (rs : List (Report A)) (states : List (Option A)) (id : ActorId) → is_alive states id ≡ true
    → is_among (retired rs) id ≡ false → is_alive (fold put_state states rs) id ≡ true
puts_keep [] states id h n = h
puts_keep {A} (r ∷ rs) states id h n = told r.outcome.retire refl n (λ g k. puts_keep rs (put_state states r) id g k) where
  told : (b : Bool) → r.outcome.retire ≡ b
      → is_among (map (λ r. r.id) (cond b (r ∷ filter (λ r. r.outcome.retire) rs) (filter (λ r. r.outcome.retire) rs))) id ≡ false
      → (is_alive (put_state states r) id ≡ true → is_among (retired rs) id ≡ false → is_alive (fold put_state (put_state states r) rs) id ≡ true)
      → is_alive (fold put_state (put_state states r) rs) id ≡ true
  told true e k more =
      let both = either_false (nat_eq r.id.0 id.0) (is_among (retired rs) id) k in
      more (put_keeps states r id h (λ t g. grind (arith, nat_tests, both.0, g))) both.1
  told false e k more = more (put_keeps states r id h (λ t. let no : false ≡ true = sym e ∙ t in cc)) k

-- ---- all that are alive

pub no_living : {A : Type 0} (states : List (Option A)) → AreLiving states []
no_living states = record { ascend = pairs_nil (λ a b. a.0 < b.0); live = All-nil (λ id. is_alive states id ≡ true) }

living_above : {A : Type 0} (states : List (Option A)) (n : ℕ) → All (λ id. n ≤ id.0) (living_from n states)
living_above [] n = All-nil (λ id. n ≤ id.0)
living_above (None ∷ states) n = All-weaker (λ id. n + 1 ≤ id.0) (λ id. n ≤ id.0) (λ id h. omega (arith, h)) (living_from (n + 1) states)
    (living_above states (n + 1))
living_above (Some a ∷ states) n =
    All-cons (λ id. n ≤ id.0) (record { 0 = n }) (living_from (n + 1) states) (omega arith)
    (All-weaker (λ id. n + 1 ≤ id.0) (λ id. n ≤ id.0) (λ id h. omega (arith, h)) (living_from (n + 1) states) (living_above states (n + 1)))

living_ascend : {A : Type 0} (states : List (Option A)) (n : ℕ) → Ascend (living_from n states)
living_ascend [] n = pairs_nil (λ a b. a.0 < b.0)
living_ascend (None ∷ states) n = living_ascend states (n + 1)
living_ascend (Some a ∷ states) n =
    AllPairs-cons (λ a b. a.0 < b.0) (record { 0 = n }) (living_from (n + 1) states)
    (All-weaker (λ id. n + 1 ≤ id.0) (λ id. n < id.0) (λ id h. omega (arith, h)) (living_from (n + 1) states) (living_above states (n + 1)))
    (living_ascend states (n + 1))

living_alive : {A : Type 0} (before states : List (Option A)) (n : ℕ) → n ≡ length before + 1
    → All (λ id. is_alive (before ++ states) id ≡ true) (living_from n states)
living_alive before [] n e = All-nil (λ id. is_alive (before ++ []) id ≡ true)
living_alive before (None ∷ states) n e =
    let longer : n + 1 ≡ length (before ++ None ∷ []) + 1 = omega (arith, e, length-append before (None ∷ [])) in
    subst (λ all. All (λ id. is_alive all id ≡ true) (living_from (n + 1) states)) (append_assoc before (None ∷ []) states)
    (living_alive (before ++ None ∷ []) states (n + 1) longer)
living_alive before (Some a ∷ states) n e =
    let longer : n + 1 ≡ length (before ++ Some a ∷ []) + 1 = omega (arith, e, length-append before (Some a ∷ [])) in
    All-cons (λ id. is_alive (before ++ Some a ∷ states) id ≡ true) (record { 0 = n }) (living_from (n + 1) states)
    (alive_next before states (record { 0 = n }) a e)
    (subst (λ all. All (λ id. is_alive all id ≡ true) (living_from (n + 1) states)) (append_assoc before (Some a ∷ []) states)
    (living_alive (before ++ Some a ∷ []) states (n + 1) longer))

pub all_living : {A : Type 0} (states : List (Option A)) → AreLiving states (living_from 1 states)
all_living states = record { ascend = living_ascend states 1; live = living_alive [] states 1 refl }
