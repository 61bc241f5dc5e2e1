-- Nothing is written past the managers of a round, however wide the tables are.
use Rattle.std.specs.Prelude.{◌≡◌, ℕ, ◌<◌, ◌⊎◌}
use Rattle.quiet_core.specs.Account.{Shape, managers, free, Account, mark, posts, acks, collects}

abbrev pub Inside : Shape → ℕ → ℕ → Type 0
Inside t m n = (m < managers t) × (n < managers t)

pub record Clear (t : Shape) (a : Account) : Type 0 where
  pub marks : (m i : ℕ) → (mark a m i ≡ free) ⊎ (m < managers t)
  pub posted : (m n : ℕ) → (posts a m n ≡ 0) ⊎ Inside t m n
  pub acked : (m n : ℕ) → (acks a m n ≡ 0) ⊎ Inside t m n
  pub collected : (n : ℕ) → (collects a n ≡ 0) ⊎ (n < managers t)
