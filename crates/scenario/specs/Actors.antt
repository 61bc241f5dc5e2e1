-- The actors of a scenario: first the checks of each in order, then the finished actors.
use Rattle.std.specs.Prelude.{ℕ, ◌+◌, List, [], ◌∷◌, ◌++◌, Result, Ok, codes}
use Rattle.std.specs.Option.{is_none}
use Rattle.serde_json.specs.Data.{Data, Items, no_items, item}
use Rattle.serde_json.specs.Find.{as_object}
use Rattle.sim_base.specs.Names.{is_name}
use Rattle.sim_model.specs.declared.setup.Start.{Start}
use Rattle.scenario.specs.Answers.{◌>>=◌, or_else, place_of, unless}
use Rattle.scenario.specs.Build.{build}
use Rattle.scenario.specs.Fields.{no_unknown, text_at}
use Rattle.scenario.specs.Names.{place_in}
use Rattle.scenario.specs.Reading.{contents_at}
use Rattle.scenario.specs.Table.{fields_of, kind_named}
use Rattle.scenario.specs.declared.any_actor.AnyActor.{AnyActor}
use Rattle.scenario.specs.declared.fields.Owner.TheVariants as owner
use Rattle.scenario.specs.declared.reading.Pass.TheVariants as pass
use Rattle.scenario.specs.declared.refusal.Refusal.{Refusal}
use Rattle.scenario.specs.declared.refusal.Refusal.TheVariants.{BadName, Twice, UnknownKind, WrongType}
use Rattle.scenario.specs.declared.table.Kind.{Kind}

-- an actor's name, which is none of the earlier ones
unfoldable pub name_of : List (List ℕ) → ℕ → Data → Result (List ℕ) Refusal
name_of earlier id d = do
  name ← text_at id (codes "name") d
  _good ← unless (is_name name) (BadName id)
  _new ← unless (is_none (place_in earlier name)) (Twice name)
  Ok name

unfoldable pub kind_of : ℕ → Data → Result Kind Refusal
kind_of id d = do
  text ← text_at id (codes "kind") d
  or_else (UnknownKind id) (kind_named text)

-- ---- the checks

-- an actor by itself: its name, or the first refusal
unfoldable pub check_of : List (List ℕ) → ℕ → Data → Result (List ℕ) Refusal
check_of earlier id d = do
  _object ← or_else (WrongType (place_of id [])) (as_object d)
  name ← name_of earlier id d
  kind ← kind_of id d
  _known ← no_unknown (owner.Actor kind) id d
  _contents ← contents_at pass.Check earlier id d 0 (fields_of kind)
  Ok name

-- the names of actors that come after these, in order, or the first refusal
abbrev pub names_of : List (List ℕ) → ℕ → Items → Result (List (List ℕ)) Refusal
names_of earlier id no_items = Ok []
names_of earlier id (item d ds) = do
  name ← check_of earlier id d
  rest ← names_of (earlier ++ name ∷ []) (id + 1) ds
  Ok (name ∷ rest)

-- ---- the finished actors

-- an actor at its start, among actors of these names; one that was checked is refused only where it names none of them
unfoldable pub actor_of : List (List ℕ) → ℕ → Data → Result AnyActor Refusal
actor_of names id d = do
  kind ← kind_of id d
  contents ← contents_at pass.Finish names id d 0 (fields_of kind)
  Ok (build kind contents)

-- actors by their own names and their trees, in order
abbrev pub starts_of : List (List ℕ) → ℕ → List (List ℕ) → Items → Result (List (Start AnyActor)) Refusal
starts_of names id (name ∷ own) (item d ds) = do
  state ← actor_of names id d
  rest ← starts_of names (id + 1) own ds
  Ok (record { name = name; state = state } ∷ rest)
starts_of names id own ds = Ok []
