-- Which parts are a scenario.
use Rattle.std.specs.Prelude.{◌≡◌, ◌⊎◌, ℕ, ◌≤◌, List, [], ◌∷◌, ◌++◌, map, length, Ok, None, true, Bool, is_some}
use Rattle.std.specs.List.{All}
use Rattle.result_store.specs.Rules.{rule_of, rules_of}
use Rattle.sim_base.specs.Names.{is_name}
use Rattle.sim_base.specs.declared.ids.ActorId.{ActorId}
use Rattle.sim_model.specs.Setups.{IsSetup}
use Rattle.sim_model.specs.declared.setup.Start.{Start}
use Rattle.scenario.specs.Build.{Fits, build}
use Rattle.scenario.specs.Format.{most_actors}
use Rattle.scenario.specs.Names.{place_in}
use Rattle.scenario.specs.ScenarioParts.{ScenarioParts}
use Rattle.scenario.specs.Table.{fields_of}
use Rattle.scenario.specs.declared.any_actor.AnyActor.{AnyActor}
use Rattle.scenario.specs.declared.contents.Content.{Content}
use Rattle.scenario.specs.declared.contents.Content.TheVariants.{Number, Actor, Route}
use Rattle.scenario.specs.declared.table.Kind.{Kind}

-- the number of one of so many actors
pub record IsActor (count : ℕ) (id : ActorId) : Type 0 where
  pub first : 1 ≤ id.0
  pub last : id.0 ≤ count

abbrev pub AreActors : ℕ → List ActorId → Type 0
AreActors count [] = Unit {0}
AreActors count (a ∷ ids) = IsActor count a × AreActors count ids

-- whom a field names is one of so many actors
abbrev pub IsWithin : ℕ → Content → Type 0
IsWithin count (Number n) = Unit {0}
IsWithin count (Actor a) = IsActor count a
IsWithin count (Route route) = AreActors count route

abbrev pub AreWithin : ℕ → List Content → Type 0
AreWithin count [] = Unit {0}
AreWithin count (c ∷ cs) = IsWithin count c × AreWithin count cs

-- an actor at its start, among so many: it is built from contents that fit, and whom they name is there
pub record IsOpening (count : ℕ) (a : AnyActor) : Type 0 where
  pub kind : Kind
  pub contents : List Content
  pub fits : Fits 0 (fields_of kind) contents
  pub within : AreWithin count contents
  pub built : build kind contents ≡ a

abbrev pub AreOpening : ℕ → List (Start AnyActor) → Type 0
AreOpening count [] = Unit {0}
AreOpening count (s ∷ ss) = IsOpening count s.state × AreOpening count ss

-- names that differ from one another and from the earlier ones
abbrev pub AreNamed : List (List ℕ) → List (List ℕ) → Type 0
AreNamed earlier [] = Unit {0}
AreNamed earlier (n ∷ ns) = (is_name n ≡ true) × (place_in earlier n ≡ None) × AreNamed (earlier ++ n ∷ []) ns

-- names that are names
abbrev pub AreNames : List (Start AnyActor) → Type 0
AreNames starts = All (λ s. is_name s.name ≡ true) starts

abbrev pub names_in : List (Start AnyActor) → List (List ℕ)
names_in starts = map (λ s. s.name) starts

-- a text that is a rule
abbrev pub is_rule : List ℕ → Bool
is_rule text = is_some (rule_of text)

-- format 1 has room for 200,000 actors and names no urgent sender, format 2 for 1,000,000 and at most 64
pub record IsScenario (p : ScenarioParts) : Type 0 where
  pub format : (p.format ≡ 1) ⊎ (p.format ≡ 2)
  pub setup : IsSetup p.setup
  pub room : p.setup.max_actors ≤ most_actors p.format
  pub none_urgent : p.format ≡ 1 → p.setup.urgent ≡ []
  pub few_urgent : length p.setup.urgent ≤ 64
  pub few_rules : length p.texts ≤ 256
  pub rules : rules_of p.texts ≡ Ok p.rules
  pub names : AreNamed [] (names_in p.setup.actors)
  pub states : AreOpening (length p.setup.actors) p.setup.actors
