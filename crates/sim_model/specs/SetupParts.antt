-- A setup as contracts see it.
use Rattle.std.specs.Prelude.{ℕ, List}
use Rattle.sim_base.specs.declared.ids.ActorId.{ActorId}
use Rattle.sim_model.specs.declared.setup.Start.{Start}

pub record SetupParts (A : Type 0) : Type 0 where
  pub seed : ℕ
  pub last_tick : ℕ
  pub diasca_limit : ℕ
  pub max_actors : ℕ
  pub actors : List (Start A)
  pub urgent : List ActorId
