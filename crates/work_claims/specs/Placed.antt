-- A world at a moment that is entered, with its actors at managers.
use Rattle.std.specs.Prelude.{◌≡◌, ℕ, ◌<◌, ◌≤◌, Bool, true, nat_eq, List, length, slice_index_or, Some}
use Rattle.std.specs.List.{filter}
use Rattle.sim_base.specs.declared.ids.ActorId.{ActorId}
use Rattle.sim_base.specs.declared.moment.Moment.{Moment}
use Rattle.actor_trait.specs.InboxOrder.{Precedence}
use Rattle.actor_trait.specs.Meaning.{Meaning}
use Rattle.quiet_core.specs.Account.{Shape, managers, scheduled}
use Rattle.sim_model.specs.Moment.{is_among, outcome_of, reports}
use Rattle.sim_model.specs.Setups.{Ascend}
use Rattle.sim_model.specs.declared.report.Report.{Report}
use Rattle.sim_model.specs.declared.world.WorldState.{WorldState}

-- the one world, the moment that it entered last and whether that isn't closed, how many managers there are, at which of them each
-- actor was put, and to which of them letters to it go
pub record Placed (A : Type 0) : Type 0 where
  pub world : WorldState A
  pub at : Moment
  pub entered : Bool
  pub managers : ℕ
  pub home : ActorId → ℕ
  pub route : ActorId → ℕ

-- the scheduled actors at a manager, ascending
abbrev pub scheduled_at : {A : Type 0} → Placed A → ℕ → List ActorId
scheduled_at p m = filter (λ id. nat_eq (p.home id) m) p.world.scheduled

-- the scheduled actor at a place of its manager's list
abbrev pub id_at : {A : Type 0} → Placed A → ℕ → ℕ → ActorId
id_at p m i = slice_index_or (scheduled_at p m) i (record { 0 = 0 })

-- the moment is entered; 1 to 16 managers, at one of which each actor that is scheduled is, once; and letters go to one of them
pub record IsPlaced {A : Type 0} (p : Placed A) : Type 0 where
  pub entered : p.entered ≡ true
  pub some_manager : 1 ≤ p.managers
  pub few_managers : p.managers ≤ 16
  pub homes : (id : ActorId) → is_among p.world.scheduled id ≡ true → p.home id < p.managers
  pub routes : (id : ActorId) → p.route id < p.managers
  pub ascend : Ascend p.world.scheduled
  pub few_scheduled : length p.world.scheduled ≤ 1000000

-- the letters that are sent at the moment come in this order
abbrev pub precedence_of : {A : Type 0} → Placed A → Precedence
precedence_of p = record { seed = p.world.parameters.seed; sent = p.at; urgent = p.world.parameters.urgent }

-- a round was opened with the scheduled numbers of the world
pub record FitsRound {A : Type 0} (p : Placed A) (t : Shape) : Type 0 where
  pub managers_are : managers t ≡ p.managers
  pub scheduled_are : (m : ℕ) → m < p.managers → scheduled t m ≡ length (scheduled_at p m)

-- a report is what its actor's event means
abbrev pub IsMeant : {A : Type 0} → Meaning A → Placed A → Report A → Type 0
IsMeant m p r = outcome_of m p.world p.at r.id ≡ Some r.outcome

-- the reports of all that are scheduled, ascending
abbrev pub reports_at : {A : Type 0} → Meaning A → Placed A → List (Report A)
reports_at m p = reports m p.world p.at
