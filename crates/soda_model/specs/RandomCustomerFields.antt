-- A random customer as contracts see it.
use Rattle.std.specs.Prelude.{◌≡◌, ℕ, ◌≤◌, ℤ, pos}
use Rattle.sim_base.specs.declared.ids.ActorId.{ActorId}

-- where it buys, its shortest and its longest wait, its money, what it offers for a can, and its cans
pub record RandomCustomerFields : Type 0 where
  pub machine : ActorId
  pub low : ℕ
  pub high : ℕ
  pub money : ℤ
  pub offer : ℤ
  pub cans : ℤ

-- the ranges that a random customer keeps
pub record IsRandomCustomer (s : RandomCustomerFields) : Type 0 where
  pub shortest : 1 ≤ s.low
  pub ordered : s.low ≤ s.high
  pub longest : s.high ≤ 1000000000
  pub cents : ℕ
  pub offer : s.offer ≡ pos cents
  pub dearest : cents ≤ 1000000
