-- The options that command words give.
use Rattle.std.specs.Prelude.{ℕ, ◌≤◌, Option, None}
use Rattle.std.specs.Option.{unwrap_or}
use Rattle.placement.specs.Plans.{IsPlan, PlanParts}
use Rattle.placement.specs.declared.policy.Policy.{Policy}
use Rattle.placement.specs.declared.policy.Policy.TheVariants.{RoundRobin}

-- each option's value, where it is given
pub record ChosenParts : Type 0 where
  pub workers : Option ℕ
  pub managers : Option ℕ
  pub fanout : Option ℕ
  pub policy : Option Policy
  pub readers : Option ℕ

abbrev pub nothing_chosen : ChosenParts
nothing_chosen = record { workers = None; managers = None; fanout = None; policy = None; readers = None }

-- what isn't given has its default
abbrev pub plan_of : ChosenParts → PlanParts
plan_of c = record {
  workers = unwrap_or c.workers 1;
  managers = unwrap_or c.managers 1;
  fanout = unwrap_or c.fanout 2;
  policy = unwrap_or c.policy RoundRobin;
}

abbrev pub readers_of : ChosenParts → ℕ
readers_of c = unwrap_or c.readers 2

-- each value is in its range
pub record IsChosen (c : ChosenParts) : Type 0 where
  pub plan : IsPlan (plan_of c)
  pub some_readers : 1 ≤ readers_of c
  pub most_readers : readers_of c ≤ 8
