-- The ranges that a setup keeps.
use Rattle.std.specs.Prelude.{◌<◌, ◌≤◌, List, length}
use Rattle.std.specs.List.{All, AllPairs}
use Rattle.sim_base.specs.declared.ids.ActorId.{ActorId}
use Rattle.actor_trait.specs.InboxOrder.{AreUrgent}
use Rattle.sim_model.specs.SetupParts.{SetupParts}
use Rattle.sim_model.specs.declared.parameters.Parameters.{Parameters}

-- ascending, each once
abbrev pub Ascend : List ActorId → Type 0
Ascend ids = AllPairs (λ a b. a.0 < b.0) ids

pub record IsSetup {A : Type 0} (s : SetupParts A) : Type 0 where
  pub seed : s.seed ≤ 18446744073709551615
  pub last_tick : s.last_tick ≤ 1000000000
  pub some_diasca : 1 ≤ s.diasca_limit
  pub diasca_limit : s.diasca_limit ≤ 65535
  pub some_actor : 1 ≤ s.max_actors
  pub max_actors : s.max_actors ≤ 1000000
  pub actors : length s.actors ≤ s.max_actors
  pub urgent : AreUrgent s.urgent
  pub known : All (λ id. (1 ≤ id.0) × (id.0 ≤ length s.actors)) s.urgent

-- what a setup says besides its actors
abbrev pub parameters_of : {A : Type 0} → SetupParts A → Parameters
parameters_of s =
    record { seed = s.seed; last_tick = s.last_tick; diasca_limit = s.diasca_limit; max_actors = s.max_actors; urgent = s.urgent }
