-- Who asked for a tick has a manager already, and placing gives each newborn one.
use Rattle.std.proofs.Common.{◌≡◌, ℕ, suc, zero, ◌+◌, ◌-◌, ◌<◌, Bool, true, false, not, cond, ◌||◌, nat_eq, Option, List, [], ◌∷◌, length, Some}
use Rattle.std.proofs.Common.{slice_get, refl, sym, ap, arith, ◌∙◌, length-append}
use Rattle.std.proofs.lemmas.Bool.Decides.{nat_tests}
use Rattle.std.proofs.lemmas.List.Elements.{All-head, All-tail}
use Rattle.std.specs.List.{All, filter, fold}
use Rattle.sim_base.specs.declared.ids.ActorId.{ActorId}
use Rattle.agenda.specs.Dues.{add_due, comes_before, without_actor}
use Rattle.agenda.specs.declared.due.Due.{Due}
use Rattle.placement.specs.declared.policy.Policy.{Policy}
use Rattle.sim_model.specs.Moment.{ask, ask_of, is_alive, is_among}
use Rattle.sim_model.specs.declared.births.Newborn.{Newborn}
use Rattle.sim_model.specs.declared.report.Report.{Report}
use Rattle.sim_model.proofs.Standing.{alive_state, stands}
use Rattle.local_manager.specs.Directories.{AllPlaced, Placed, without_load, without_loads, with_actor}
use Rattle.local_manager.specs.Views.{with_newborn}

abbrev AreKnown : ℕ → List Due → Type 0
AreKnown n dues = AllPlaced (λ d. d.actor) n dues

got_within : {X : Type 0} (xs : List X) (i : ℕ) (x : X) → slice_get xs i ≡ Some x → i < length xs
got_within [] i x e = absurd (cc)
got_within (y ∷ ys) zero x e = omega arith
got_within (y ∷ ys) (suc i) x e = omega (arith, got_within ys i x e)

pub alive_within : {A : Type 0} (states : List (Option A)) (id : ActorId) → is_alive states id ≡ true → id.0 - 1 < length states
alive_within states id h = let there = alive_state states id h in got_within states (id.0 - 1) (Some there.0) (stands states id there.0 there.1).at

pub living_known : {A : Type 0} (states : List (Option A)) (dues : List Due) → All (λ d. is_alive states d.actor ≡ true) dues → AreKnown (length states) dues
living_known states [] h = tt
living_known states (d ∷ dues) h = (
  alive_within states d.actor (All-head (λ (d : Due). is_alive states d.actor ≡ true) d dues h),
  living_known states dues (All-tail (λ (d : Due). is_alive states d.actor ≡ true) d dues h),
)

known_add : (n : ℕ) (d : Due) (dues : List Due) → d.actor.0 - 1 < n → AreKnown n dues → AreKnown n (add_due d dues)
known_add n d [] lt h = (lt, tt)
known_add n d (x ∷ xs) lt h = told (comes_before d x) (comes_before x d) (known_add n d xs lt h.1)
  where
    told : (b c : Bool) → AreKnown n (add_due d xs) → AreKnown n (cond b (d ∷ x ∷ xs) (cond c (x ∷ add_due d xs) (x ∷ xs)))
    told true c g = (lt, h)
    told false true g = (h.0, g)
    told false false g = h

known_ask : (n : ℕ) (id : ActorId) (ticks : List ℕ) (dues : List Due) → id.0 - 1 < n → AreKnown n dues → AreKnown n (ask id dues ticks)
known_ask n id [] dues lt h = h
known_ask n id (t ∷ ticks) dues lt h = known_ask n id ticks (add_due (record { tick = t; actor = id }) dues) lt
    (known_add n (record { tick = t; actor = id }) dues lt h)

pub known_asks : {A : Type 0} (states : List (Option A)) (rs : List (Report A)) (dues : List Due) → All (λ r. is_alive states r.id ≡ true) rs
    → AreKnown (length states) dues → AreKnown (length states) (fold ask_of dues rs)
known_asks states [] dues live h = h
known_asks {A} states (r ∷ rs) dues live h =
    known_asks states rs (ask_of dues r) (All-tail (λ (r : Report A). is_alive states r.id ≡ true) r rs live)
    (known_ask (length states) r.id r.outcome.ticks dues (alive_within states r.id (All-head (λ (r : Report A). is_alive states r.id ≡ true) r rs live)) h)

pub known_filter : (n : ℕ) (p : Due → Bool) (dues : List Due) → AreKnown n dues → AreKnown n (filter p dues)
known_filter n p [] h = tt
known_filter n p (d ∷ dues) h = told (p d) (known_filter n p dues h.1)
  where
    told : (b : Bool) → AreKnown n (filter p dues) → AreKnown n (cond b (d ∷ filter p dues) (filter p dues))
    told true g = (h.0, g)
    told false g = g

-- those that are taken out one after the other are all of them
pub without_all : (ids : List ActorId) (dues : List Due) → fold (λ left id. without_actor id left) dues ids ≡ filter (λ d. not (is_among ids d.actor)) dues
without_all [] dues = sym (kept dues)
  where
    kept : (dues : List Due) → filter (λ d. true) dues ≡ dues
    kept [] = refl
    kept (d ∷ dues) = ap (λ l. d ∷ l) (kept dues)
without_all (id ∷ ids) dues = without_all ids (without_actor id dues) ∙ both dues
  where
    both : (dues : List Due) → filter (λ d. not (is_among ids d.actor)) (without_actor id dues) ≡ filter (λ d. not (is_among (id ∷ ids) d.actor)) dues
    both [] = refl
    both (d ∷ dues) = told (nat_eq d.actor.0 id.0) (is_among ids d.actor) (nat_eq id.0 d.actor.0) refl refl refl (both dues)
      where
        told : (b c e : Bool) → nat_eq d.actor.0 id.0 ≡ b → is_among ids d.actor ≡ c → nat_eq id.0 d.actor.0 ≡ e
            → filter (λ d. not (is_among ids d.actor)) (without_actor id dues) ≡ filter (λ d. not (is_among (id ∷ ids) d.actor)) dues
            → filter (λ d. not (is_among ids d.actor)) (cond (not b) (d ∷ without_actor id dues) (without_actor id dues))
            ≡ cond (not (e || c)) (d ∷ filter (λ d. not (is_among (id ∷ ids) d.actor)) dues) (filter (λ d. not (is_among (id ∷ ids) d.actor)) dues)
        told true c true f g h k = k
        told true c false f g h k = absurd (grind (arith, nat_tests, f, h))
        told false c true f g h k = absurd (grind (arith, nat_tests, f, h))
        told false true false f g h k = rw g k
        told false false false f g h k = rw g (ap (λ l. d ∷ l) k)

-- ---- how many have a manager

pub homes_with : (policy : Policy) (p : Placed) (id : ActorId) (name : List ℕ) → length (with_actor policy p id name).homes ≡ length p.homes + 1
homes_with policy p id name = length-append p.homes (_ ∷ [])

pub homes_without : (p : Placed) (ids : List ActorId) → (without_loads p ids).homes ≡ p.homes
homes_without p [] = refl
homes_without p (id ∷ ids) = homes_without (without_load p id) ids

pub homes_born : {A : Type 0} (policy : Policy) (p : Placed) (born : List (Newborn A))
    → length (with_newborn policy p born).homes ≡ length p.homes + length born
homes_born policy p [] = omega arith
homes_born policy p (b ∷ born) = omega (arith, homes_born policy (with_actor policy p b.id b.name) born, homes_with policy p b.id b.name)
