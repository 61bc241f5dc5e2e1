-- A scenario as contracts see it.
use Rattle.std.specs.Prelude.{ℕ, List}
use Rattle.result_store.specs.RuleParts.{RuleParts}
use Rattle.sim_model.specs.SetupParts.{SetupParts}
use Rattle.scenario.specs.declared.any_actor.AnyActor.{AnyActor}

-- the number of its format, what is run, the rules, and their texts
pub record ScenarioParts : Type 0 where
  pub format : ℕ
  pub setup : SetupParts AnyActor
  pub rules : List RuleParts
  pub texts : List (List ℕ)
