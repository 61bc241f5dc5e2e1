-- The run of a setup of which some rows are kept.
use Rattle.std.specs.Prelude.{◌≡◌, ℕ, Bool}
use Rattle.sim_base.specs.declared.ids.ActorId.{ActorId}
use Rattle.actor_trait.specs.Meaning.{Meaning}
use Rattle.probes.specs.Kept.{kept_rows}
use Rattle.sim_model.specs.Run.{IsRun}
use Rattle.sim_model.specs.SetupParts.{SetupParts}
use Rattle.sim_model.specs.declared.run.Results.{Results}

-- these results with the rows alone that are kept
abbrev pub results_kept : (ActorId → ℕ → Bool) → Results → Results
results_kept keeps all = record all { rows = kept_rows keeps all.rows }

-- the run of the setup ends, and gives these results, but for the rows that aren't kept
abbrev pub IsRunKept : {A : Type 0} → Meaning A → SetupParts A → (ActorId → ℕ → Bool) → Results → Type 0
IsRunKept m s keeps r = (all : Results) × IsRun m s all × (r ≡ results_kept keeps all)
