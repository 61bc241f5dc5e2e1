use Rattle.std.proofs.Common.{◌≡◌, ◌≤◌, ◌<◌, ℕ}
use Rattle.quiet_core.specs.Account.{acks, collects, managers}
use Rattle.round_cost.specs.Hands.{One}
use Rattle.round_cost.proofs.moments.take_in.Given as goal

abbrev pub invariant-loop-m : goal.invariant-loop-m
invariant-loop-m l = One l.round l.hand × (collects l.hand.account l.to.0 ≡ 1) × ((k : ℕ) → l.m ≤ k → k < managers l.round.shape → acks l.hand.account k l.to.0 ≡ 0)
