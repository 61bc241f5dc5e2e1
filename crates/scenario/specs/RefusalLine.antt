-- The line of a refused scenario.
use Rattle.std.specs.Prelude.{ℕ, ◌==◌, nat_le, ◌&&◌, if◌then◌else◌, List, [], ◌∷◌, ◌++◌, map, codes}
use Rattle.std.specs.Fmt.{decimal, signed_decimal}
use Rattle.scenario.specs.declared.refusal.Place.{Place}
use Rattle.scenario.specs.declared.refusal.Refusal.{Refusal}
use Rattle.scenario.specs.declared.refusal.Refusal.TheVariants.{NotJson, Missing, WrongType, OutOfRange, BadName, Twice, UnknownKind, UnknownField, UnknownActor, BadRule, TooManyActors}

-- a byte of a field's name: what isn't printable ASCII is a question mark
abbrev pub shown : ℕ → ℕ
shown b = if nat_le 32 b && nat_le b 126 then b else 63

-- the field of an actor, where it has a name
abbrev pub field_text : List ℕ → List ℕ
field_text [] = []
field_text (b ∷ field) = codes " " ++ map shown (b ∷ field)

abbrev pub actor_text : ℕ → List ℕ → List ℕ
actor_text id field = codes "actor " ++ decimal id ++ field_text field

-- a field of the whole has actor 0
abbrev pub place_text : Place → List ℕ
place_text p = if p.actor == 0 then map shown p.field else actor_text p.actor p.field

abbrev pub refusal_text : Refusal → List ℕ
refusal_text NotJson = codes "not JSON"
refusal_text (Missing p) = codes "missing " ++ place_text p
refusal_text (WrongType p) = codes "wrong type " ++ place_text p
refusal_text (OutOfRange p z) = codes "out of range " ++ place_text p ++ codes " " ++ signed_decimal z
refusal_text (BadName id) = codes "bad name of actor " ++ decimal id
refusal_text (Twice name) = codes "name twice " ++ name
refusal_text (UnknownKind id) = codes "unknown kind of actor " ++ decimal id
refusal_text (UnknownField p) = codes "unknown field " ++ place_text p
refusal_text (UnknownActor p) = codes "unknown actor " ++ place_text p
refusal_text (BadRule n) = codes "bad rule " ++ decimal n
refusal_text (TooManyActors n) = codes "too many actors " ++ decimal n

abbrev pub scenario_line : Refusal → List ℕ
scenario_line r = codes "scenario: " ++ refusal_text r ++ codes "\n"
