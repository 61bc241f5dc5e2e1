-- What a simulation keeps between calls.
use Rattle.std.specs.Prelude.{◌≡◌, ◌<◌, ◌≤◌, ℕ, suc, length}
use Rattle.sim_base.specs.declared.moment.Moment.{Moment}
use Rattle.sim_model.specs.Moment.{agenda_at}
use Rattle.sim_model.specs.Stepping.{RisesFrom}
use Rattle.sim_model.specs.declared.parameters.Parameters.{Parameters}
use Rattle.local_manager.specs.Views.{CanEnter, WorldParts, managers_of}
use Rattle.local_manager.specs.declared.phase.Phase.TheVariants.{Entered}
use Rattle.tick_advance.specs.Log.{EndsBefore, LogParts}
use Rattle.tick_advance.specs.declared.position.Position.{Position}
use Rattle.tick_advance.specs.declared.position.Position.TheVariants.{Before, Within, Ended, Lost}

-- a moment that the limits allow
pub record IsWithinLimits (p : Parameters) (at : Moment) : Type 0 where
  pub tick : at.tick ≤ p.last_tick
  pub diasca : at.diasca < p.diasca_limit

-- the moment comes next, or is entered; no row is of it or of a later one; and each manager has a buffer and a leaf
pub record IsDue {A : Type 0} (w : WorldParts A) (l : LogParts) (leaves : ℕ) (at : Moment) : Type 0 where
  pub limits : IsWithinLimits w.one.parameters at
  pub rows : EndsBefore l at
  pub buffers : length l.buffers ≡ managers_of w
  pub tree : leaves ≡ managers_of w

-- the moment comes next. Once it is entered, all ticks that are asked for are later
pub record IsSoundBefore {A : Type 0} (w : WorldParts A) (l : LogParts) (leaves : ℕ) (at : Moment) : Type 0 where
  pub due : IsDue w l leaves at
  pub next : CanEnter w at
  pub agenda : RisesFrom (suc at.tick) (agenda_at w.one at)

-- the moment is entered, and all ticks that are asked for are later
pub record IsSoundWithin {A : Type 0} (w : WorldParts A) (l : LogParts) (leaves : ℕ) (at : Moment) : Type 0 where
  pub due : IsDue w l leaves at
  pub phase : w.phase ≡ Entered
  pub now : w.moment ≡ at
  pub agenda : RisesFrom (suc at.tick) w.one.agenda

abbrev pub IsSoundAt : {A : Type 0} → WorldParts A → LogParts → ℕ → Position → Type 0
IsSoundAt w l leaves (Before at) = IsSoundBefore w l leaves at
IsSoundAt w l leaves (Within at) = IsSoundWithin w l leaves at
IsSoundAt w l leaves (Ended ending) = Unit {0}
IsSoundAt w l leaves Lost = Unit {0}

pub record IsSound {A : Type 0} (w : WorldParts A) (l : LogParts) (leaves workers : ℕ) (position : Position) : Type 0 where
  pub some_worker : 1 ≤ workers
  pub few_workers : workers ≤ 64
  pub at : IsSoundAt w l leaves position
