-- The scenario that a text gives, or why it gives none.
use Rattle.std.specs.Prelude.{ℕ, ◌==◌, List, [], Option, None, Result, Ok, nat_le, if◌then◌else◌, codes}
use Rattle.std.specs.Str.{is_utf8}
use Rattle.serde_json.specs.Data.{Data, Items}
use Rattle.serde_json.specs.Events.{items_len}
use Rattle.serde_json.specs.Find.{get, as_array, as_object}
use Rattle.serde_json.specs.Read.{read}
use Rattle.scenario.specs.Actors.{names_of, starts_of}
use Rattle.scenario.specs.Answers.{◌>>=◌, or_else, place_of, unless}
use Rattle.scenario.specs.Fields.{no_unknown, number_at, number_or}
use Rattle.scenario.specs.Reading.{look_all}
use Rattle.scenario.specs.ScenarioParts.{ScenarioParts}
use Rattle.scenario.specs.Selection.{results_of, rules_in}
use Rattle.scenario.specs.Table.{most}
use Rattle.scenario.specs.Urgent.{ascending, urgent_texts}
use Rattle.scenario.specs.declared.fields.Owner.TheVariants as owner
use Rattle.scenario.specs.declared.reading.Pass.TheVariants as pass
use Rattle.scenario.specs.declared.refusal.Refusal.{Refusal}
use Rattle.scenario.specs.declared.refusal.Refusal.TheVariants.{Missing, NotJson, TooManyActors, WrongType}
use Rattle.scenario.specs.declared.whole.Limits.{Limits}

abbrev pub is_object : Data → Result (Unit {0}) Refusal
is_object d = or_else (WrongType (place_of 0 (codes "scenario"))) (as_object d) >>= (λ ms. Ok tt)

-- the most that the field max_actors may be
abbrev pub most_actors : ℕ → ℕ
most_actors format = if format == 1 then 200000 else 1000000

-- the format and the numbers of the whole
unfoldable pub limits_of : Data → Result Limits Refusal
limits_of d = do
  format ← number_at 0 (codes "format") 1 2 d
  seed ← number_or (codes "seed") 0 0 18446744073709551615 d
  last_tick ← number_at 0 (codes "last_tick") 0 most d
  diasca_limit ← number_or (codes "diasca_limit") 1000 1 65535 d
  max_actors ← number_or (codes "max_actors") 10000 1 (most_actors format) d
  Ok (record { format = format; seed = seed; last_tick = last_tick; diasca_limit = diasca_limit; max_actors = max_actors })

-- the trees of the actors, at most so many
unfoldable pub items_in : ℕ → Option Data → Result Items Refusal
items_in max_actors field = do
  d ← or_else (Missing (place_of 0 (codes "actors"))) field
  ds ← or_else (WrongType (place_of 0 (codes "actors"))) (as_array d)
  _few ← unless (nat_le (items_len ds) max_actors) (TooManyActors (items_len ds))
  Ok ds

-- the scenario of a tree: the checks in their order, then the finished actors, and those that are urgent
unfoldable pub scenario_in : Data → Result ScenarioParts Refusal
scenario_in d = do
  _object ← is_object d
  _known ← no_unknown owner.Whole 0 d
  limits ← limits_of d
  urgent ← urgent_texts limits.format d
  texts ← results_of d
  rules ← rules_in texts
  items ← items_in limits.max_actors (get (codes "actors") d)
  names ← names_of [] 1 items
  actors ← starts_of names 1 names items
  senders ← look_all pass.Finish names (place_of 0 (codes "urgent")) urgent
  Ok (record {
    format = limits.format;
    setup = record {
      seed = limits.seed;
      last_tick = limits.last_tick;
      diasca_limit = limits.diasca_limit;
      max_actors = limits.max_actors;
      actors = actors;
      urgent = ascending senders;
    };
    rules = rules;
    texts = texts;
  })

-- the tree of a text
unfoldable pub tree_of : List ℕ → Option Data
tree_of bytes = if is_utf8 bytes then read bytes else None

-- it knows no limit on the number of bytes
unfoldable pub scenario_of : List ℕ → Result ScenarioParts Refusal
scenario_of bytes = do
  d ← or_else NotJson (tree_of bytes)
  scenario_in d
