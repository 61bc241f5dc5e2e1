-- What the phases of many hands make together.
use Rattle.std.specs.Prelude.{◌≡◌, ℕ, ◌<◌, ◌≤◌, ◌⊎◌, false, List, [], length}
use Rattle.sim_base.specs.declared.ids.ActorId.{ActorId}
use Rattle.actor_trait.specs.InboxOrder.{inbox_order}
use Rattle.actor_trait.specs.Meaning.{Meaning}
use Rattle.actor_trait.specs.declared.letter.Letter.{Letter}
use Rattle.quiet_core.specs.Account.{Account, mark, posts, acks, collects, done}
use Rattle.quiescence.specs.Answers.{NoDuty}
use Rattle.quiescence.specs.Rule.{Holding, RoundId}
use Rattle.sim_model.specs.declared.report.Report.{Report}
use Rattle.work_claims.specs.Acting.{Ended, Tells}
use Rattle.work_claims.specs.Collecting.{AreInboxesTo, CollectedAll, Collects, inbox_in}
use Rattle.work_claims.specs.Letters.{letters_between, letters_sent}
use Rattle.work_claims.specs.Placed.{Placed, precedence_of, scheduled_at}
use Rattle.work_claims.specs.declared.acted.Acted.{Acted}
use Rattle.work_claims.specs.declared.acted.Collected.{Collected}

-- what the act phases of so many hands give together
pub record Worked {A : Type 0} (m : Meaning A) (p : Placed A) (r : RoundId) (hands : ℕ) (acted : Acted A) : Type 0 where
  pub of : acted.hand.round ≡ r
  pub weight : acted.hand.account.weight ≡ hands
  pub none_collected : (n : ℕ) → n < p.managers → collects acted.hand.account n ≡ 0
  pub tells : Tells m p acted.reports acted.hand.account
  pub ended : acted.short ≡ false → Ended p.managers acted.hand.account

-- every scheduled actor is done in the account, and the letters of the reports are posted in it
pub record IsDone {A : Type 0} (m : Meaning A) (p : Placed A) (reports : List (Report A)) (a : Account) : Type 0 where
  pub all_done : (k i : ℕ) → k < p.managers → i < length (scheduled_at p k) → done (mark a k i) ≡ 1
  pub posted : (k n : ℕ) → k < p.managers → n < p.managers → posts a k n ≡ letters_between m p k n reports

-- what the collect phase of a hand gives
pub record Phased {A : Type 0} (m : Meaning A) (p : Placed A) (r : RoundId) (reports : List (Report A)) (h : Holding) (c : Collected) : Type 0 where
  pub of : c.hand.round ≡ r
  pub collects : Collects r.shape h.account c.hand.account
  pub collected : c.short ≡ false → CollectedAll r.shape h.account c.hand.account
  pub inboxes : c.short ≡ false → AreInboxesTo m p reports h.account c.hand.account c.inboxes
  pub no_duty : NoDuty c.hand.account

-- nobody collects the letters to n, and no inbox of an actor of n is there
pub record IsOpenTo {A : Type 0} (p : Placed A) (a : Account) (parts : List (List Letter)) (n : ℕ) : Type 0 where
  pub collects : collects a n ≡ 0
  pub none : (to : ActorId) → p.route to ≡ n → inbox_in parts to ≡ []

-- all letters to n are acknowledged, and the inboxes of the actors of n are there
pub record IsTakenTo {A : Type 0} (m : Meaning A) (p : Placed A) (reports : List (Report A)) (a : Account) (parts : List (List Letter)) (n : ℕ) : Type 0 where
  pub collects : collects a n ≡ 1
  pub acked : (k : ℕ) → k < p.managers → letters_between m p k n reports ≤ acks a k n
  pub inboxes : (to : ActorId) → p.route to ≡ n → inbox_in parts to ≡ inbox_order (letters_sent m p reports) to (precedence_of p)

-- of each manager one of the two holds
abbrev pub AreGathered : {A : Type 0} → Meaning A → Placed A → List (Report A) → Account → List (List Letter) → Type 0
AreGathered m p reports a parts = (n : ℕ) → n < p.managers → IsOpenTo p a parts n ⊎ IsTakenTo m p reports a parts n

-- a hand of the whole weight that has done all, and collects nothing yet
pub record IsReady {A : Type 0} (m : Meaning A) (p : Placed A) (r : RoundId) (reports : List (Report A)) (h : Holding) : Type 0 where
  pub of : h.round ≡ r
  pub weight : h.account.weight ≡ r.shape.hands
  pub no_duty : NoDuty h.account
  pub none_collected : (n : ℕ) → n < p.managers → collects h.account n ≡ 0
  pub work : IsDone m p reports h.account

-- what the collect phases of hands give together, of which the first had done all
pub record Gathered {A : Type 0} (m : Meaning A) (p : Placed A) (r : RoundId) (hands : ℕ) (reports : List (Report A)) (c : Collected) : Type 0 where
  pub of : c.hand.round ≡ r
  pub weight : c.hand.account.weight ≡ hands
  pub no_duty : NoDuty c.hand.account
  pub work : IsDone m p reports c.hand.account
  pub letters : c.short ≡ false → AreGathered m p reports c.hand.account c.inboxes

-- the part of one of the other hands
pub record Helped {A : Type 0} (m : Meaning A) (p : Placed A) (r : RoundId) (reports : List (Report A)) (c : Collected) : Type 0 where
  pub of : c.hand.round ≡ r
  pub weight : c.hand.account.weight ≡ 1
  pub no_duty : NoDuty c.hand.account
  pub none_done : (k i : ℕ) → done (mark c.hand.account k i) ≡ 0
  pub none_posted : (k n : ℕ) → k < p.managers → n < p.managers → posts c.hand.account k n ≡ 0
  pub letters : c.short ≡ false → AreGathered m p reports c.hand.account c.inboxes

-- all letters are collected
pub record AllGathered {A : Type 0} (m : Meaning A) (p : Placed A) (r : RoundId) (reports : List (Report A)) (c : Collected) : Type 0 where
  pub of : c.hand.round ≡ r
  pub weight : c.hand.account.weight ≡ r.shape.hands
  pub no_duty : NoDuty c.hand.account
  pub work : IsDone m p reports c.hand.account
  pub taken : (n : ℕ) → n < p.managers → IsTakenTo m p reports c.hand.account c.inboxes n
