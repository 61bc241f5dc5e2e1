-- What is written of a deed beside the actors.
use Rattle.std.specs.Prelude.{ℕ, ◌+◌, ◌^◌, ◌<◌, ◌≤◌}
use Rattle.quiet_core.specs.declared.deed.Deed.{Deed}
use Rattle.quiet_core.specs.declared.deed.Deed.TheVariants as deed
use Rattle.quiet_core.specs.Account.{Shape, managers, root, Account, posts, acks, collects}
use Rattle.quiet_core.specs.Step.{after}

-- the account after a deed, but for its marks
abbrev pub noted : Shape → Deed → ℕ → Account → Account
noted t d x a = record (after t d x a) { marks = a.marks }

-- the managers and nodes of a deed are those of the round, and a node isn't the root
abbrev pub Within : Shape → Deed → Type 0
Within t (deed.Claim m) = m < managers t
Within t (deed.Raise m i n) = m < managers t
Within t (deed.Post m i to n) = (m < managers t) × (to < managers t)
Within t (deed.Done m i) = m < managers t
Within t (deed.Collect n) = n < managers t
Within t (deed.Look m n) = (m < managers t) × (n < managers t)
Within t (deed.Ack m n k) = (m < managers t) × (n < managers t)
Within t (deed.Climb c) = c < root t

-- no number leaves its range, where the word is x
abbrev pub Roomy : Deed → ℕ → Account → Type 0
Roomy (deed.Claim m) x a = x + 1 < 2 ^ 64
Roomy (deed.Raise m i n) x a = x + n < 2 ^ 64
Roomy (deed.Post m i to n) x a = (x + n < 2 ^ 64) × (posts a m to ≤ x)
Roomy (deed.Done m i) x a = 1 ≤ x
Roomy (deed.Collect n) x a = Unit {0}
Roomy (deed.Look m n) x a = Unit {0}
Roomy (deed.Ack m n k) x a = (k ≤ x) × (acks a m n + k < 2 ^ 64)
Roomy (deed.Climb c) x a = 1 ≤ x

-- two ledgers whose sums are numbers of their types
pub record RoomyBoth (a c : Account) : Type 0 where
  pub weight : a.weight + c.weight < 2 ^ 32
  pub posted : (m n : ℕ) → m < 16 → n < 16 → posts a m n + posts c m n < 2 ^ 64
  pub collected : (n : ℕ) → n < 16 → collects a n + collects c n < 2 ^ 64
  pub acked : (m n : ℕ) → m < 16 → n < 16 → acks a m n + acks c m n < 2 ^ 64
