-- The numbers of the newborn.
use Rattle.std.proofs.Common.{◌≡◌, ℕ, suc, ◌+◌, ◌-◌, ◌<◌, ◌≤◌, nat_lt, List, [], ◌∷◌, length, drop, get_or, refl, ap, arith, drop-cons, length-append}
use Rattle.std.proofs.lemmas.Bool.Decides.{nat_tests}
use Rattle.sim_base.specs.declared.ids.ActorId.{ActorId}
use Rattle.actor_trait.specs.Meaning.{Meaning}
use Rattle.sim_model.specs.Births.{bears_past, births_from, births_of_moment, next_after}
use Rattle.sim_model.specs.declared.report.Report.{Report}

next_after_grows : {A : Type 0} (rs : List (Report A)) (next : ℕ) → next ≤ next_after next rs
next_after_grows [] next = omega arith
next_after_grows (r ∷ rs) next = omega (arith, next_after_grows rs (next + length r.outcome.births))

-- the numbers of one creator's newborn are below the number after all
pub item_fits : {A : Type 0} (rs : List (Report A)) (i next total : ℕ) (d : Report A) → i < length rs
    → next_after next (drop i rs) ≡ total → next + length (get_or rs i d).outcome.births ≤ total
item_fits rs i next total d lt h =
    let split = rw (drop-cons rs i d lt) at h in
    omega (arith, next_after_grows (drop (suc i) rs) (next + length (get_or rs i d).outcome.births), split)

pub births_from-length : {A : Type 0} (m : Meaning A) (creator : ActorId) (index id : ℕ) (states : List A)
    → length (births_from m creator index id states) ≡ length states
births_from-length m creator index id [] = refl
births_from-length m creator index id (s ∷ ss) = ap (λ n. suc n) (births_from-length m creator (index + 1) (id + 1) ss)

pub births-length : {A : Type 0} (m : Meaning A) (rs : List (Report A)) (next : ℕ) → next + length (births_of_moment m next rs) ≡ next_after next rs
births-length m [] next = omega arith
births-length m (r ∷ rs) next =
    omega (
      arith,
      births-length m rs (next + length r.outcome.births),
      births_from-length m r.id 0 next r.outcome.births,
      length-append (births_from m r.id 0 next r.outcome.births) (births_of_moment m (next + length r.outcome.births) rs),
    )

-- whether a number is past the max, by how much room there is
pub past_room : {A : Type 0} (max next : ℕ) (r : Report A) → next ≤ max + 1
    → bears_past max next (length r.outcome.births) ≡ nat_lt (max + 1 - next) (length r.outcome.births)
past_room max next r le = grind (arith, nat_tests)
