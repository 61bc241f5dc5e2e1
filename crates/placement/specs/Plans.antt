-- A plan as contracts see it.
use Rattle.std.specs.Prelude.{ℕ, ◌≤◌}
use Rattle.placement.specs.declared.policy.Policy.{Policy}

-- how many workers and managers there are, how many children a node of their tree has at most, and
-- how an actor is placed
pub record PlanParts : Type 0 where
  pub workers : ℕ
  pub managers : ℕ
  pub fanout : ℕ
  pub policy : Policy

-- the ranges that a plan keeps
pub record IsPlan (p : PlanParts) : Type 0 where
  pub some_workers : 1 ≤ p.workers
  pub most_workers : p.workers ≤ 64
  pub some_managers : 1 ≤ p.managers
  pub most_managers : p.managers ≤ 16
  pub some_fanout : 2 ≤ p.fanout
  pub most_fanout : p.fanout ≤ 8
