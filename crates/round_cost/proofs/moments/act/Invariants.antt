use Rattle.std.proofs.Common.{◌≡◌, ◌≤◌, ℕ, false}
use Rattle.quiet_core.specs.Account.{has_met}
use Rattle.round_cost.specs.Hands.{One}
use Rattle.round_cost.proofs.moments.act.Given as goal

abbrev pub invariant-loop-m : goal.invariant-loop-m
invariant-loop-m l = One l.round l.hand × (l.hand.account.collecting ≡ false) × ((k : ℕ) → l.m ≤ k → has_met l.hand.account k ≡ false)
