-- The births of a moment: numbers go on from the next one, in order of creator and then of its list.
use Rattle.std.specs.Prelude.{ℕ, ◌+◌, ◌&&◌, Bool, nat_lt, List, [], ◌∷◌, ◌++◌, length, pos}
use Rattle.sim_base.specs.Names.{born_name}
use Rattle.sim_base.specs.declared.ids.ActorId.{ActorId}
use Rattle.actor_trait.specs.Meaning.{Meaning}
use Rattle.actor_trait.specs.declared.letter.Letter.{Letter}
use Rattle.sim_model.specs.Cast.{kind_of}
use Rattle.sim_model.specs.declared.births.Newborn.{Newborn}
use Rattle.sim_model.specs.declared.cast.Member.{Member}
use Rattle.sim_model.specs.declared.report.Report.{Report}

abbrev pub newborn : {A : Type 0} → Meaning A → ActorId → ℕ → ℕ → A → Newborn A
newborn m creator index id state =
    record { id = record { 0 = id }; name = born_name (m.kind state) (record { 0 = id }); state = state; creator = creator; index = index }

-- the births of one creator, the first of which has this place in its list and this number
abbrev pub births_from : {A : Type 0} → Meaning A → ActorId → ℕ → ℕ → List A → List (Newborn A)
births_from m creator index id [] = []
births_from m creator index id (state ∷ states) = newborn m creator index id state ∷ births_from m creator (index + 1) (id + 1) states

-- the births of a moment, the first of which has this number
abbrev pub births_of_moment : {A : Type 0} → Meaning A → ℕ → List (Report A) → List (Newborn A)
births_of_moment m next [] = []
births_of_moment m next (r ∷ rs) = births_from m r.id 0 next r.outcome.births ++ births_of_moment m (next + length r.outcome.births) rs

-- the number that comes after those of a moment
abbrev pub next_after : {A : Type 0} → ℕ → List (Report A) → ℕ
next_after next [] = next
next_after next (r ∷ rs) = next_after (next + length r.outcome.births) rs

-- whether one of so many births, the first of which has the next number, has a number that no actor may have
abbrev pub bears_past : ℕ → ℕ → ℕ → Bool
bears_past max_actors next births = nat_lt 0 births && nat_lt (max_actors + 1) (next + births)

-- the letter that tells a creator of a birth: code 0, the place in its list, and the new number
abbrev pub birth_letter : {A : Type 0} → Newborn A → Letter
birth_letter b = record { to = b.creator; from = record { 0 = 0 }; serial = b.index; payload = record { code = 0; a = pos b.index; b = pos b.id.0 } }

-- the report of an actor once its newborn are taken out
abbrev pub without_births : {A : Type 0} → Report A → Report A
without_births r = record r { outcome = record r.outcome { births = [] } }

abbrev pub member_born : {A : Type 0} → Meaning A → Newborn A → Member
member_born m b = record { id = b.id; name = b.name; kind = kind_of m b.state }
