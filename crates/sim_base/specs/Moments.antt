-- The order of moments.
use Rattle.std.specs.Prelude.{◌≡◌, ◌<◌, ◌⊎◌}
use Rattle.sim_base.specs.declared.moment.Moment.{Moment}

-- by tick, then by diasca
abbrev pub IsBefore : Moment → Moment → Type 0
IsBefore a b = (a.tick < b.tick) ⊎ ((a.tick ≡ b.tick) × (a.diasca < b.diasca))
