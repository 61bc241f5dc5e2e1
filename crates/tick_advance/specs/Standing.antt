-- Where a simulation stands in the run of a setup.
use Rattle.std.specs.Prelude.{◌≡◌, ◌+◌, ◌<◌, ◌≤◌, ℕ, Bool, Option, Some, None, nat_eq, if◌then◌else◌}
use Rattle.sim_base.specs.declared.ids.ActorId.{ActorId}
use Rattle.sim_base.specs.declared.moment.Moment.{Moment}
use Rattle.actor_trait.specs.Meaning.{Meaning}
use Rattle.quiescence.specs.Rounds.{RoundSums}
use Rattle.sim_model.specs.Moment.{enter, event_at}
use Rattle.sim_model.specs.Run.{run_after}
use Rattle.sim_model.specs.SetupParts.{SetupParts}
use Rattle.sim_model.specs.Setups.{IsSetup}
use Rattle.sim_model.specs.declared.stage.Ended.{Ended}
use Rattle.sim_model.specs.declared.stage.Stage.{Stage}
use Rattle.sim_model.specs.declared.stage.Stage.TheVariants.{Going, Over}
use Rattle.sim_model.specs.declared.stage.Underway.{Underway}
use Rattle.local_manager.specs.Views.{IsSeenAs, WorldParts, with_letters}
use Rattle.local_manager.specs.declared.phase.Phase.{Phase}
use Rattle.local_manager.specs.declared.phase.Phase.TheVariants as phase
use Rattle.tick_advance.specs.Log.{HasRows, LogParts, SievedLog, log_of}
use Rattle.tick_advance.specs.RoundsOf.{rounds_after}
use Rattle.tick_advance.specs.declared.position.Position.{Position}
use Rattle.tick_advance.specs.declared.position.Position.TheVariants as position
use Rattle.tick_advance.specs.declared.position.Progress.{Progress}
use Rattle.tick_advance.specs.declared.position.Progress.TheVariants as progress
use Rattle.tick_advance.specs.declared.position.Step.{Step}
use Rattle.tick_advance.specs.declared.position.Step.TheVariants as step

-- what is told of a simulation
pub record SimParts (A : Type 0) : Type 0 where
  pub world : WorldParts A
  pub log : LogParts
  pub rounds : RoundSums
  pub position : Position

-- what a contract sees of one, which is the same with the sieve that says which rows are kept
pub record SievedSim (A S : Type 0) : Type 0 where
  pub world : WorldParts A
  pub log : SievedLog S
  pub rounds : RoundSums
  pub position : Position

abbrev pub sim_of : {A S : Type 0} → (S → ActorId → ℕ → Bool) → SievedSim A S → SimParts A
sim_of keeps v = record { world = v.world; log = log_of keeps v.log; rounds = v.rounds; position = v.position }

-- ---- between two moments

-- the moment entered last, and (0,0) before the first
abbrev pub last_of : Option Moment → Moment
last_of None = record { tick = 0; diasca = 0 }
last_of (Some last) = last

abbrev pub phase_after : Option Moment → Phase
phase_after None = phase.Opening
phase_after (Some last) = phase.Closed

-- it stands before the next moment of this run
pub record IsBefore {A : Type 0} (v : SimParts A) (u : Underway A) : Type 0 where
  pub position : v.position ≡ position.Before u.next
  pub phase : v.world.phase ≡ phase_after u.last
  pub now : v.world.moment ≡ last_of u.last
  pub world : IsSeenAs v.world u.world (last_of u.last)
  pub rows : HasRows v.log u.rows

-- it stands at the end of this run. Of its world there remains what the results tell
pub record IsOver {A : Type 0} (v : SimParts A) (e : Ended A) : Type 0 where
  pub position : v.position ≡ position.Ended e.ending
  pub now : v.world.moment ≡ e.last
  pub cast : v.world.one.cast ≡ e.world.cast
  pub dead_letters : v.world.one.dead_letters ≡ e.world.dead_letters
  pub rows : HasRows v.log e.rows

abbrev pub IsAt : {A : Type 0} → SimParts A → Stage A → Type 0
IsAt v (Going u) = IsBefore v u
IsAt v (Over e) = IsOver v e

-- it stands for the run of the setup after so many moments, of which the next one isn't entered
pub record StandsFor {A : Type 0} (m : Meaning A) (s : SetupParts A) (k : ℕ) (v : SimParts A) : Type 0 where
  pub setup : IsSetup s
  pub stage : IsAt v (run_after m s k)
  pub rounds : v.rounds ≡ rounds_after m s k

-- ---- within a moment

-- it has entered the next moment of this run: in the one world, where each event is that of the world before
pub record IsWithin {A : Type 0} (v : SimParts A) (u : Underway A) : Type 0 where
  pub position : v.position ≡ position.Within u.next
  pub world : v.world.one ≡ with_letters (enter u.world u.next) v.world.one.letters
  pub events : (id : ActorId) → event_at v.world.one u.next id ≡ event_at (enter u.world u.next) u.next id
  pub rows : HasRows v.log u.rows

-- it stands for the run after so many moments, and has entered the next one
pub record StandsWithin {A : Type 0} (m : Meaning A) (s : SetupParts A) (k : ℕ) (v : SimParts A) : Type 0 where
  pub setup : IsSetup s
  pub underway : Underway A
  pub stage : run_after m s k ≡ Going underway
  pub within : IsWithin v underway
  pub rounds : v.rounds ≡ rounds_after m s k

-- ---- what a step leads to

-- a moment leads to the next diasca of its tick, to another tick, or to the end
abbrev pub step_to : {A : Type 0} → Stage A → Step
step_to (Going u) = if nat_eq u.next.diasca 0 then step.NextTick else step.NextDiasca
step_to (Over e) = step.Ended e.ending

abbrev pub progress_to : {A : Type 0} → Stage A → Progress
progress_to (Going u) = progress.Going
progress_to (Over e) = progress.Ended e.ending

-- the moment comes next, or is entered
abbrev pub IsOn : Moment → Position → Type 0
IsOn at (position.Before next) = next ≡ at
IsOn at (position.Within entered) = entered ≡ at
IsOn at (position.Ended ending) = ⊥
IsOn at position.Lost = ⊥

-- from this moment a step leads to that position
abbrev pub LeadsTo : Moment → Step → Position → Type 0
LeadsTo at step.NextDiasca to = to ≡ position.Before (record { tick = at.tick; diasca = at.diasca + 1 })
LeadsTo at step.NextTick to = (tick : ℕ) × (to ≡ position.Before (record { tick = tick; diasca = 0 }))
LeadsTo at (step.Ended ending) to = to ≡ position.Ended ending

-- the run goes on within a tick
abbrev pub IsInTick : {A : Type 0} → Stage A → Type 0
IsInTick stage = step_to stage ≡ step.NextDiasca

-- ... and from so many moments on it first leaves the tick after j more
pub record PassesTick {A : Type 0} (m : Meaning A) (s : SetupParts A) (k j : ℕ) : Type 0 where
  pub some : 1 ≤ j
  pub within : (i : ℕ) → 1 ≤ i → i < j → IsInTick (run_after m s (k + i))
  pub left : (step_to (run_after m s (k + j)) ≡ step.NextDiasca) → ⊥
