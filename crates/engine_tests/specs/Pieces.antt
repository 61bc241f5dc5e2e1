-- What a piece of a run does.
use Rattle.std.specs.Prelude.{◌≡◌, ◌+◌, ℕ, Option, Some}
use Rattle.sim_base.specs.declared.moment.Ending.{Ending}
use Rattle.actor_trait.specs.Meaning.{Meaning}
use Rattle.sim_model.specs.SetupParts.{SetupParts}
use Rattle.tick_advance.specs.Standing.{SimParts, StandsFor}
use Rattle.tick_advance.specs.declared.position.Position.TheVariants as position

-- it goes on in whatever run it stood in
abbrev pub GoesOn : {A : Type 0} → Meaning A → SimParts A → SimParts A → Type 0
GoesOn {A} m before after = (s : SetupParts A) (k : ℕ) → StandsFor m s k before → (j : ℕ) × StandsFor m s (k + j) after

-- an ending is told only of a run that is over
abbrev pub TellsEnd : {A : Type 0} → Meaning A → SimParts A → SimParts A → Option Ending → Type 0
TellsEnd {A} m before after told =
    (e : Ending) (s : SetupParts A) (k : ℕ) → told ≡ Some e → StandsFor m s k before → (o : Ending) × (after.position ≡ position.Ended o)
