-- What rules select of a run, and that the text is the same without the rest.
use Rattle.std.specs.Prelude.{◌≡◌, ℕ, ◌<◌, Bool, true, List, [], ◌++◌, length, map, slice_index_or}
use Rattle.std.specs.List.{All, filter}
use Rattle.sim_base.specs.declared.moment.Row.{Row}
use Rattle.actor_trait.specs.Meaning.{Meaning}
use Rattle.sim_model.specs.Cast.{members_from}
use Rattle.sim_model.specs.Run.{IsRun, run_of}
use Rattle.sim_model.specs.SetupParts.{SetupParts}
use Rattle.sim_model.specs.declared.cast.Member.{Member}
use Rattle.sim_model.specs.declared.run.Results.{Results}
use Rattle.sim_model.specs.declared.stage.Ended.{Ended}
use Rattle.sim_model.specs.declared.stage.Stage.TheVariants.{Over}
use Rattle.result_store.specs.Patterns.{series_name}
use Rattle.result_store.specs.RuleParts.{RuleParts}
use Rattle.result_store.specs.Rules.{keeps}
use Rattle.result_store.specs.Text.{text_of}
use Rattle.selection.specs.SelectionParts.{SelectionParts, may_show}

-- ---- the selection of rules

abbrev pub probes_of : Member → List (List ℕ)
probes_of c = c.kind.probes

-- the rules' word on this probe's series
abbrev pub keeps_probe : List RuleParts → List ℕ → List (List ℕ) → ℕ → Bool
keeps_probe rules name probes n = keeps rules (series_name name (slice_index_or probes n []))

-- their word on each of an actor's series, in the order of its probes
abbrev pub flags_of : List RuleParts → List ℕ → List (List ℕ) → List Bool
flags_of rules name probes = map (λ probe. keeps rules (series_name name probe)) probes

-- the word of the rules on each probe of these members, who are numbered from 1; all samples of others are kept
pub record Selects (rules : List RuleParts) (members : List Member) (s : SelectionParts) : Type 0 where
  pub known : All (λ c. (n : ℕ) → n < length (probes_of c) → may_show s c.id n ≡ keeps_probe rules c.name (probes_of c) n) members
  pub nobody : (n : ℕ) → may_show s (record { 0 = 0 }) n ≡ true
  pub later : (id n : ℕ) → length members < id → may_show s (record { 0 = id }) n ≡ true

-- ---- the text of the rest

-- the rows that a selection keeps
abbrev pub shown : SelectionParts → List Row → List Row
shown s rows = filter (λ w. may_show s w.actor w.probe) rows

-- these, and then such as were born later
pub record IsCastFrom (members cast : List Member) : Type 0 where
  pub born : List Member
  pub whole : cast ≡ members ++ born
  pub later : All (λ c. length members < c.id.0) born

-- the rows that a selection doesn't keep add nothing to the text
abbrev pub TextStays : List RuleParts → SelectionParts → Results → Type 0
TextStays rules s r = text_of rules (record r { rows = shown s r.rows }) ≡ text_of rules r

-- whoever is in a run is there from the start or was born later
abbrev pub CastGoesOn : {A : Type 0} → Meaning A → SetupParts A → Type 0
CastGoesOn {A} m s = (e : Ended A) → run_of m s ≡ Over e → IsCastFrom (members_from m 1 s.actors) e.world.cast

-- so it is with the text of each run of a setup
abbrev pub RunTextStays : {A : Type 0} → Meaning A → SetupParts A → List RuleParts → SelectionParts → Type 0
RunTextStays m s rules sel = (r : Results) → IsRun m s r → TextStays rules sel r
