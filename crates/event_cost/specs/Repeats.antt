-- An actor at the same event, tick after tick.
use Rattle.std.specs.Prelude.{ℕ, zero, suc}
use Rattle.actor_trait.specs.Meaning.{Meaning}
use Rattle.actor_trait.specs.Seen.{Seen}
use Rattle.actor_trait.specs.declared.context.Context.{Context}

-- of actor 1, with seed 7
abbrev pub context_at : ℕ → Context
context_at tick = record { seed = 7; now = record { tick = tick; diasca = 1 }; me = record { 0 = 1 } }

-- its state after so many ticks
unfoldable pub after_ticks : {A : Type 0} → Meaning A → A → Seen → ℕ → A
after_ticks m s e zero = s
after_ticks m s e (suc n) = (m.acts (after_ticks m s e n) (context_at n) e).state
