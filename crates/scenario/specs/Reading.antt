-- What the fields of an actor hold.
use Rattle.std.specs.Prelude.{ℕ, List, [], ◌∷◌, Result, Ok}
use Rattle.serde_json.specs.Data.{Data}
use Rattle.sim_base.specs.declared.ids.ActorId.{ActorId}
use Rattle.scenario.specs.Answers.{◌>>=◌, ok_map, or_else, place_of}
use Rattle.scenario.specs.Fields.{number_at, text_at, texts_at}
use Rattle.scenario.specs.Names.{place_in}
use Rattle.scenario.specs.Table.{Row}
use Rattle.scenario.specs.declared.contents.Content.{Content}
use Rattle.scenario.specs.declared.contents.Content.TheVariants as content
use Rattle.scenario.specs.declared.reading.Pass.{Pass}
use Rattle.scenario.specs.declared.reading.Pass.TheVariants as pass
use Rattle.scenario.specs.declared.refusal.Place.{Place}
use Rattle.scenario.specs.declared.refusal.Refusal.{Refusal}
use Rattle.scenario.specs.declared.refusal.Refusal.TheVariants.{UnknownActor}
use Rattle.scenario.specs.declared.table.Least.{Least}
use Rattle.scenario.specs.declared.table.Least.TheVariants as least
use Rattle.scenario.specs.declared.table.Sort.{Sort}
use Rattle.scenario.specs.declared.table.Sort.TheVariants as sort

-- the least number of a field, after one with this number
abbrev pub least_of : ℕ → Least → ℕ
least_of before (least.Number n) = n
least_of before least.Before = before

abbrev pub number_in : Content → ℕ
number_in (content.Number n) = n
number_in (content.Actor a) = 0
number_in (content.Route r) = 0

abbrev pub nobody : ActorId
nobody = record { 0 = 0 }

-- the actor of a name; while only checks are made, any text passes
abbrev pub look : Pass → List (List ℕ) → Place → List ℕ → Result ActorId Refusal
look pass.Check names p text = Ok nobody
look pass.Finish names p text = ok_map (λ place. record { 0 = place }) (or_else (UnknownActor p) (place_in names text))

abbrev pub look_all : Pass → List (List ℕ) → Place → List (List ℕ) → Result (List ActorId) Refusal
look_all q names p [] = Ok []
look_all q names p (t ∷ ts) = do
  a ← look q names p t
  rest ← look_all q names p ts
  Ok (a ∷ rest)

unfoldable pub content_at : Pass → List (List ℕ) → ℕ → Data → ℕ → List ℕ → Sort → Result Content Refusal
content_at q names id d before field (sort.Number low high) = ok_map content.Number (number_at id field (least_of before low) high d)
content_at q names id d before field sort.Actor = do
  text ← text_at id field d
  a ← look q names (place_of id field) text
  Ok (content.Actor a)
content_at q names id d before field sort.Route = do
  texts ← texts_at id field 1 32 d
  route ← look_all q names (place_of id field) texts
  Ok (content.Route route)

-- the contents of the fields of a list, in order, or the first refusal
abbrev pub contents_at : Pass → List (List ℕ) → ℕ → Data → ℕ → List Row → Result (List Content) Refusal
contents_at q names id d before [] = Ok []
contents_at q names id d before (r ∷ rs) = do
  c ← content_at q names id d before r.name r.sort
  rest ← contents_at q names id d (number_in c) rs
  Ok (c ∷ rest)
