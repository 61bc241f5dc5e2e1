-- A customer as contracts see it.
use Rattle.std.specs.Prelude.{◌≡◌, ℕ, ◌≤◌, ℤ, pos}
use Rattle.sim_base.specs.declared.ids.ActorId.{ActorId}

-- where it buys, how many ticks it waits, its money, what it offers for a can, and its cans
pub record CustomerFields : Type 0 where
  pub machine : ActorId
  pub period : ℕ
  pub money : ℤ
  pub offer : ℤ
  pub cans : ℤ

-- the ranges that a customer keeps
pub record IsCustomer (s : CustomerFields) : Type 0 where
  pub shortest : 1 ≤ s.period
  pub longest : s.period ≤ 1000000000
  pub cents : ℕ
  pub offer : s.offer ≡ pos cents
  pub dearest : cents ≤ 1000000
