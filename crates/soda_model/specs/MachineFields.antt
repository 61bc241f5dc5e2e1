-- A vending machine as contracts see it.
use Rattle.std.specs.Prelude.{◌≡◌, ℕ, ◌≤◌, ℤ, pos}

-- its cans, what one costs, the tick at which it closes (never, if 0), and what it took in
pub record MachineFields : Type 0 where
  pub stock : ℤ
  pub price : ℤ
  pub close_at : ℕ
  pub coins : ℤ

-- the ranges that a machine keeps
pub record IsMachine (s : MachineFields) : Type 0 where
  pub latest : s.close_at ≤ 1000000000
  pub cents : ℕ
  pub price : s.price ≡ pos cents
  pub dearest : cents ≤ 1000000
