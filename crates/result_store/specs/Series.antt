-- The rows of an actor and of a probe.
use Rattle.std.specs.Prelude.{ℕ, nat_eq, List}
use Rattle.std.specs.List.{filter}
use Rattle.sim_base.specs.declared.moment.Row.{Row}

abbrev pub rows_of_actor : ℕ → List Row → List Row
rows_of_actor id rows = filter (λ r. nat_eq r.actor.0 id) rows

abbrev pub rows_of_probe : ℕ → List Row → List Row
rows_of_probe n rows = filter (λ r. nat_eq r.probe n) rows

-- the rows of a series
abbrev pub rows_of_series : ℕ → ℕ → List Row → List Row
rows_of_series id n rows = rows_of_probe n (rows_of_actor id rows)
