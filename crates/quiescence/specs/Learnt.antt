-- What is known of an account, since it stands in a round.
use Rattle.std.specs.Prelude.{◌≡◌, ℕ, ◌+◌, ◌<◌, ◌≤◌, true, false, ◌⊎◌}
use Rattle.quiet_core.specs.Account.{Shape, managers, scheduled, free, Account, mark, has_met, posts, knows, acks, collects, has_duty, entered, opened, owing}

-- nothing is open, nothing is left to post, and no duty is held
pub record Idle (t : Shape) (a : Account) : Type 0 where
  pub none_open : (m i : ℕ) → opened (mark a m i) ≡ 0
  pub none_owed : (m i : ℕ) → owing (mark a m i) ≡ 0
  pub no_duty : (c : ℕ) → has_duty a c ≡ false

-- of an account of the whole weight: it knows at most what it posted; where it found a manager exhausted each scheduled actor is open or done in it; and if it holds Root it has acknowledged as much as it posted
pub record Whole (t : Shape) (a : Account) : Type 0 where
  pub knows_posted : (m n : ℕ) → m < managers t → n < managers t → knows a m n ≤ posts a m n
  pub all_entered : (m i : ℕ) → m < managers t → has_met a m ≡ true → i < scheduled t m → entered (mark a m i) ≡ 1
  pub all_acked : a.at_root ≡ true → (m n : ℕ) → m < managers t → n < managers t → acks a m n ≡ posts a m n

-- no actor is entered twice; of a manager at which nobody is scheduled no letter is posted or known; who holds Root is idle; and what the whole weight tells
pub record Learnt (t : Shape) (a : Account) : Type 0 where
  pub once : (m i : ℕ) → m < managers t → entered (mark a m i) ≤ 1
  pub silent : (m n : ℕ) → m < managers t → n < managers t → scheduled t m ≡ 0 → (posts a m n ≡ 0) × (knows a m n ≡ 0)
  pub idle : a.at_root ≡ true → Idle t a
  pub whole : a.weight ≡ t.hands → Whole t a

-- of two hands that have met: no actor was entered by both, no manager is collected by both, and if one holds Root both are idle
pub record Disjoint (t : Shape) (a c : Account) : Type 0 where
  pub marks : (m i : ℕ) → m < managers t → (mark a m i ≡ free) ⊎ (mark c m i ≡ free)
  pub collectors : (n : ℕ) → n < managers t → collects a n + collects c n ≤ 1
  pub idle : (a.at_root ≡ true) ⊎ (c.at_root ≡ true) → Idle t a × Idle t c
