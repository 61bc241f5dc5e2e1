-- The births of one creator after another of its list.
use Rattle.std.proofs.Common.{◌≡◌, ℕ, ◌+◌, ◌<◌, ◌≤◌, List, [], ◌∷◌, ◌++◌, length, drop, get_or, map, arith, append_assoc, refl, sym, ap, ◌∙◌}
use Rattle.std.proofs.lemmas.List.{length-map, map-append}
use Rattle.sim_base.specs.declared.ids.ActorId.{ActorId}
use Rattle.actor_trait.specs.Meaning.{Meaning}
use Rattle.sim_model.specs.Births.{births_from, births_of_moment, newborn, next_after}
use Rattle.sim_model.specs.declared.births.Newborn.{Newborn}
use Rattle.sim_model.specs.declared.report.Report.{Report}
use Rattle.sim_model.proofs.Numbers.{item_fits}
use Rattle.sim_model.proofs.Lists.{drop_item}

pub births_from-push : {A : Type 0} (m : Meaning A) (creator : ActorId) (index id : ℕ) (states : List A) (state : A)
    → births_from m creator index id (states ++ state ∷ []) ≡ births_from m creator index id states ++ newborn m creator
    (index + length states) (id + length states) state ∷ []
births_from-push m creator index id [] state =
    let first : index + 0 ≡ index = omega arith in
    let second : id + 0 ≡ id = omega arith in
    rw (first, second) refl
births_from-push m creator index id (s ∷ ss) state =
    let first : index + 1 + length ss ≡ index + length (s ∷ ss) = omega arith in
    let second : id + 1 + length ss ≡ id + length (s ∷ ss) = omega arith in
    let rest = rw (first, second) at (births_from-push m creator (index + 1) (id + 1) ss state) in
    ap (λ born. newborn m creator index id s ∷ born) rest

-- one more of its list, which a loop has gone through so far
pub births_pushed : {A : Type 0} (m : Meaning A) (creator : ActorId) (first : ℕ) (before now after : List (Newborn A))
    (yielded : List (ℕ × A)) (index : ℕ) (state : A)
    → index ≡ length yielded → now ≡ before ++ births_from m creator 0 first (map (λ p. p.1) yielded)
    → after ≡ now ++ newborn m creator index (first + index) state ∷ []
    → after ≡ before ++ births_from m creator 0 first (map (λ p. p.1) (yielded ++ (index, state) ∷ []))
births_pushed {A} m creator first before now after yielded index state is so_far pushed =
    let states = map {A = ℕ × A} (λ p. p.1) yielded in
    let count : length states ≡ index = length-map {A = ℕ × A} yielded (λ p. p.1) ∙ sym is in
    let place : 0 + length states ≡ index = omega (arith, count) in
    let all = rw (place, count) at (births_from-push m creator 0 first states state) in
    rw (map-append {A = ℕ × A} (λ p. p.1) yielded ((index, state) ∷ []), all, pushed, so_far)
    (append_assoc before (births_from m creator 0 first states) (newborn m creator index (first + index) state ∷ []))

-- one more creator of a moment
pub creator_borne : {A : Type 0} (m : Meaning A) (rs : List (Report A)) (i : ℕ) (r : Report A) (first : ℕ) (before after all : List (Newborn A))
    → i < length rs → r ≡ get_or rs i r → before ++ births_of_moment m first (drop i rs) ≡ all
    → after ≡ before ++ births_from m r.id 0 first r.outcome.births
    → after ++ births_of_moment m (first + length r.outcome.births) (drop (i + 1) rs) ≡ all
creator_borne m rs i r first before after all lt is so_far borne =
    let split : drop i rs ≡ r ∷ drop (i + 1) rs = drop_item rs i r lt is in
    rw borne (append_assoc before (births_from m r.id 0 first r.outcome.births)
    (births_of_moment m (first + length r.outcome.births) (drop (i + 1) rs)) ∙ (rw split at so_far))

pub creator_numbered : {A : Type 0} (rs : List (Report A)) (i : ℕ) (r : Report A) (first total : ℕ) → i < length rs → r ≡ get_or rs i r
    → next_after first (drop i rs) ≡ total → next_after (first + length r.outcome.births) (drop (i + 1) rs) ≡ total
creator_numbered rs i r first total lt is so_far = rw (drop_item rs i r lt is) at so_far

-- its numbers are below the one that comes after all
pub creator_fits : {A : Type 0} (rs : List (Report A)) (i : ℕ) (r : Report A) (first total : ℕ) → i < length rs → r ≡ get_or rs i r
    → next_after first (drop i rs) ≡ total → first + length r.outcome.births ≤ total
creator_fits rs i r first total lt is so_far = rw (← is) at (item_fits rs i first total r lt so_far)
