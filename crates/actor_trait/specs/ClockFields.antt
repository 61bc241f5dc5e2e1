-- A clock as contracts see it.
use Rattle.std.specs.Prelude.{◌≡◌, ℕ, ◌≤◌, ℤ, pos}

-- how many ticks lie between two beats, how often it beats, and how often it has
pub record ClockFields : Type 0 where
  pub period : ℕ
  pub count : ℤ
  pub beats : ℤ

-- the ranges that a clock keeps
pub record IsClock (s : ClockFields) : Type 0 where
  pub least : 1 ≤ s.period
  pub most : s.period ≤ 1000000000
  pub beats_in_all : ℕ
  pub count : s.count ≡ pos beats_in_all
  pub few : beats_in_all ≤ 1000000000
