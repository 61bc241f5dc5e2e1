use Rattle.std.proofs.Common.{◌≡◌, ◌≤◌, ◌<◌, ℕ}
use Rattle.quiet_core.specs.Account.{acks, collects}
use Rattle.quiet_tests.specs.Trial.{One}
use Rattle.quiet_tests.proofs.running_round.take_in.Given as goal

abbrev pub invariant-loop-m : goal.invariant-loop-m
invariant-loop-m l = One l.round l.hand × (collects l.hand.account l.to.0 ≡ 1) × ((k : ℕ) → l.m ≤ k → k < 3 → acks l.hand.account k l.to.0 ≡ 0)
