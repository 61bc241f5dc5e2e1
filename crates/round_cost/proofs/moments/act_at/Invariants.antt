use Rattle.std.proofs.Common.{◌≡◌, ◌≢◌, ℕ, false}
use Rattle.quiet_core.specs.Account.{has_met}
use Rattle.round_cost.specs.Hands.{One}
use Rattle.round_cost.proofs.moments.act_at.Given as goal

abbrev pub invariant-loop : goal.invariant-loop
invariant-loop l = One l.round l.hand × (l.hand.account.collecting ≡ false) × (has_met l.hand.account l.m.0 ≡ false) × ((k : ℕ) → k ≢ l.m.0 → has_met l.hand.account k ≡ has_met l.fn.hand.account k)
