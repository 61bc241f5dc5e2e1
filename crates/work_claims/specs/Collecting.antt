-- What a hand does in its collect phase.
use Rattle.std.specs.Prelude.{◌≡◌, ◌≢◌, ℕ, ◌<◌, ◌≤◌, Bool, true, false, List, [], get_or, ◌⊎◌}
use Rattle.std.specs.List.{flat_map}
use Rattle.sim_base.specs.declared.ids.ActorId.{ActorId}
use Rattle.actor_trait.specs.InboxOrder.{inbox_order}
use Rattle.actor_trait.specs.Meaning.{Meaning}
use Rattle.actor_trait.specs.declared.letter.Letter.{Letter}
use Rattle.inbox_order.specs.Inboxes.{inbox_of}
use Rattle.quiet_core.specs.Account.{Shape, managers, Account, posts, knows, acks, collects}
use Rattle.sim_model.specs.declared.report.Report.{Report}
use Rattle.work_claims.specs.Letters.{letters_sent}
use Rattle.work_claims.specs.Placed.{Placed, precedence_of}

-- what no step of a collect phase changes
pub record Stays (a a' : Account) : Type 0 where
  pub weight : a'.weight ≡ a.weight
  pub collecting : a'.collecting ≡ a.collecting
  pub marks : a'.marks ≡ a.marks
  pub exhausted : a'.exhausted ≡ a.exhausted
  pub posted : a'.posted ≡ a.posted

-- the hand came to collect the letters to n; or it did not
abbrev pub IsTurnOf : ℕ → Bool → Account → Account → Type 0
IsTurnOf n true a a' = (collects a n ≡ 0) × (collects a' n ≡ 1)
IsTurnOf n false a a' = collects a' n ≡ collects a n

-- the turns from one manager on up to another were tried, and `mine` says which of them the hand took
pub record Turned (t : Shape) (from to : ℕ) (before mine : List Bool) (a a' : Account) : Type 0 where
  pub stays : Stays a a'
  pub known : a'.known ≡ a.known
  pub acked : a'.acked ≡ a.acked
  pub duties : a'.duties ≡ a.duties
  pub turns : (n : ℕ) → from ≤ n → n < to → IsTurnOf n (get_or mine n false) a a'
  pub unacked : (n m : ℕ) → from ≤ n → n < to → get_or mine n false ≡ true → m < managers t → acks a m n ≡ 0
  pub others : (n : ℕ) → (n < from) ⊎ (to ≤ n) → (get_or mine n false ≡ get_or before n false) × (collects a' n ≡ collects a n)
  pub own : a.weight ≡ t.hands → (n : ℕ) → from ≤ n → n < to → collects a' n ≡ 1

-- the hand has acknowledged all letters from m to n that it knows of, and those are no fewer than before, nor than it posted
pub record TookFrom (m n : ℕ) (a a' : Account) : Type 0 where
  pub all : acks a' m n ≡ knows a' m n
  pub own : posts a' m n ≤ knows a' m n
  pub more : knows a m n ≤ knows a' m n

-- what was acknowledged and is known of the letters from m to n is as before
pub record SameFrom (m n : ℕ) (a a' : Account) : Type 0 where
  pub acks : acks a' m n ≡ acks a m n
  pub knows : knows a' m n ≡ knows a m n

-- the letters to n from the manager m are taken in
pub record Taking (m n : ℕ) (a a' : Account) : Type 0 where
  pub stays : Stays a a'
  pub collected : a'.collected ≡ a.collected
  pub took : TookFrom m n a a'
  pub apart : (j k : ℕ) → (j ≢ m) ⊎ (k ≢ n) → SameFrom j k a a'

-- the letters to n from managers below m are taken in
pub record TakingAll (m n : ℕ) (a a' : Account) : Type 0 where
  pub stays : Stays a a'
  pub collected : a'.collected ≡ a.collected
  pub took : (j : ℕ) → j < m → TookFrom j n a a'
  pub later : (j : ℕ) → m ≤ j → SameFrom j n a a'
  pub apart : (j k : ℕ) → k ≢ n → SameFrom j k a a'

-- of the managers below n, the letters to those that are the hand's are taken in
pub record Took (t : Shape) (n : ℕ) (mine : List Bool) (a a' : Account) : Type 0 where
  pub stays : Stays a a'
  pub collected : a'.collected ≡ a.collected
  pub took : (k j : ℕ) → k < n → get_or mine k false ≡ true → j < managers t → TookFrom j k a a'
  pub others : (k j : ℕ) → get_or mine k false ≡ false → SameFrom j k a a'
  pub later : (k j : ℕ) → n ≤ k → SameFrom j k a a'

-- the hand came to collect the letters to n in this phase
abbrev pub CameTo : ℕ → Account → Account → Type 0
CameTo n a a' = (collects a n ≡ 0) × (collects a' n ≡ 1)

-- what holds after a collect phase, whether it came to its end or not
pub record Collects (t : Shape) (a a' : Account) : Type 0 where
  pub stays : Stays a a'
  pub knows_more : (m n : ℕ) → m < managers t → n < managers t → knows a m n ≤ knows a' m n
  pub still : (n : ℕ) → n < managers t → collects a n ≡ 1 → (collects a' n ≡ 1) × ((m : ℕ) → m < managers t → acks a' m n ≡ acks a m n)

-- what holds besides after one that came to its end: of each manager the turn was tried; who came to collect has acknowledged all letters
-- that it knows of and that it posted; and all else was left
pub record CollectedAll (t : Shape) (a a' : Account) : Type 0 where
  pub tried : (n : ℕ) → n < managers t → CameTo n a a' ⊎ (collects a' n ≡ collects a n)
  pub came : (m n : ℕ) → m < managers t → n < managers t → CameTo n a a' → (acks a' m n ≡ knows a' m n) × (posts a' m n ≤ knows a' m n)
  pub left : (m n : ℕ) → m < managers t → n < managers t → collects a' n ≡ collects a n → acks a' m n ≡ acks a m n
  pub own : a.weight ≡ t.hands → (n : ℕ) → n < managers t → collects a' n ≡ 1

-- the inboxes that one recipient has in all parts
abbrev pub inbox_in : List (List Letter) → ActorId → List Letter
inbox_in parts to = flat_map (λ part. inbox_of part to) parts

-- the inboxes of all whose manager the hand came to collect, and of nobody else
pub record AreInboxesTo {A : Type 0} (m : Meaning A) (p : Placed A) (reports : List (Report A)) (a a' : Account) (parts : List (List Letter)) : Type 0 where
  pub came : (to : ActorId) → CameTo (p.route to) a a' → inbox_in parts to ≡ inbox_order (letters_sent m p reports) to (precedence_of p)
  pub left : (to : ActorId) → collects a' (p.route to) ≡ collects a (p.route to) → inbox_in parts to ≡ []
