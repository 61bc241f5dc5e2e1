-- What comes of a moment by many hands.
use Rattle.std.specs.Prelude.{◌≡◌, ℕ, ◌*◌, ◌<◌, slice_index, length}
use Rattle.actor_trait.specs.Meaning.{Meaning}
use Rattle.inbox_order.specs.Inboxes.{AreInboxesOf}
use Rattle.quiescence.specs.Ended.{Closing, letters}
use Rattle.work_claims.specs.Letters.{letters_between, letters_sent}
use Rattle.work_claims.specs.Placed.{Placed, precedence_of, reports_at, scheduled_at}
use Rattle.work_claims.specs.declared.harvest.Harvest.{Harvest}

-- the round was closed with the numbers of these reports: how many actors were scheduled at each manager, and how many letters they send from manager to manager
pub record IsClosing {A : Type 0} (m : Meaning A) (p : Placed A) (closed : Closing) : Type 0 where
  pub managers : length closed.scheduled ≡ p.managers
  pub scheduled : (k : ℕ) → k < p.managers → slice_index closed.scheduled k ≡ length (scheduled_at p k)
  pub pairs : length closed.posted ≡ p.managers * p.managers
  pub posted : (k n : ℕ) → k < p.managers → n < p.managers → letters closed k n ≡ letters_between m p k n (reports_at m p)

-- the reports of all that are scheduled, ascending; the inboxes of what they send, each in its order; and the round that they closed
pub record IsHarvest {A : Type 0} (m : Meaning A) (p : Placed A) (h : Harvest A) : Type 0 where
  pub reports : h.reports ≡ reports_at m p
  pub inboxes : AreInboxesOf h.inboxes (letters_sent m p (reports_at m p)) (precedence_of p)
  pub closed : IsClosing m p h.closed
