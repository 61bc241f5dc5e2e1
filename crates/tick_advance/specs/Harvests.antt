-- What closes a moment that a simulation has entered.
use Rattle.std.specs.Prelude.{◌≤◌, List, length}
use Rattle.actor_trait.specs.Meaning.{Meaning}
use Rattle.actor_trait.specs.declared.letter.Letter.{Letter}
use Rattle.inbox_order.specs.Inboxes.{AreInboxesOf}
use Rattle.local_manager.specs.Views.{WorldParts, reports_now, sent_at}
use Rattle.work_claims.specs.Harvest.{IsHarvest}
use Rattle.work_claims.specs.Letters.{letters_sent}
use Rattle.work_claims.specs.Worlds.{placed_in}
use Rattle.work_claims.specs.declared.harvest.Harvest.{Harvest}
use Rattle.tick_advance.specs.Standing.{SimParts}
use Rattle.tick_advance.specs.declared.position.Position.{Position}
use Rattle.tick_advance.specs.declared.position.Position.TheVariants.{Before, Within, Ended, Lost}

-- the inboxes of what is sent at the moment that a world has entered, where who shows a fault of its own sends nothing
abbrev pub AreInboxesSent : {A : Type 0} → Meaning A → WorldParts A → List Letter → Type 0
AreInboxesSent m w inboxes = AreInboxesOf inboxes (letters_sent m (placed_in w) (reports_now m w)) (sent_at w.one.parameters w.moment)

-- somebody is scheduled, and this is what came of it
pub record IsWork {A : Type 0} (m : Meaning A) (w : WorldParts A) (h : Harvest A) : Type 0 where
  pub somebody : 1 ≤ length w.one.scheduled
  pub harvest : IsHarvest m (placed_in w) h

abbrev pub CanAdvanceAt : {A : Type 0} → Position → Meaning A → WorldParts A → Harvest A → Type 0
CanAdvanceAt (Before at) m w h = ⊥
CanAdvanceAt (Within at) m w h = IsWork m w h
CanAdvanceAt (Ended ending) m w h = Unit {0}
CanAdvanceAt Lost m w h = Unit {0}

-- a moment is entered, and this is what came of all that are scheduled; or the run is over
abbrev pub CanAdvance : {A : Type 0} → Meaning A → SimParts A → Harvest A → Type 0
CanAdvance m v h = CanAdvanceAt v.position m v.world h
