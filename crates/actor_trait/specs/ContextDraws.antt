-- The draws of an actor at a moment.
use Rattle.std.specs.Prelude.{ℕ}
use Rattle.hash_seed.specs.Draws.{draw}
use Rattle.actor_trait.specs.declared.context.Context.{Context}

abbrev pub draw_in : Context → ℕ → ℕ → ℕ
draw_in c k bound = draw c.seed c.now.tick c.now.diasca c.me.0 k bound
