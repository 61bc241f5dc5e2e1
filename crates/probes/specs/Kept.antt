-- What a sieve keeps, which says of each actor and probe whether it does.
use Rattle.std.specs.Prelude.{ℕ, Bool, List}
use Rattle.std.specs.List.{filter}
use Rattle.sim_base.specs.declared.ids.ActorId.{ActorId}
use Rattle.sim_base.specs.declared.moment.Row.{Row}
use Rattle.actor_trait.specs.declared.outcome.Sample.{Sample}

-- the samples of an actor that are kept, in order
abbrev pub kept_by : (ActorId → ℕ → Bool) → ActorId → List Sample → List Sample
kept_by keeps actor ss = filter (λ s. keeps actor s.probe) ss

-- the rows that are kept, in order
abbrev pub kept_rows : (ActorId → ℕ → Bool) → List Row → List Row
kept_rows keeps rows = filter (λ r. keeps r.actor r.probe) rows
