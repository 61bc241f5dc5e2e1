-- What is known of the hands of a moment.
use Rattle.std.specs.Prelude.{◌≡◌, ℕ, false}
use Rattle.quiet_core.specs.Account.{Account, has_met}
use Rattle.quiescence.specs.Rule.{RoundId, Holding}

-- a hand of the round, of weight 1
pub record One (r : RoundId) (h : Holding) : Type 0 where
  pub of : h.round ≡ r
  pub weight : h.account.weight ≡ 1

-- it claims, and has found no manager exhausted
pub record CanAct (r : RoundId) (h : Holding) : Type 0 where
  pub one : One r h
  pub claims : h.account.collecting ≡ false
  pub met_none : (m : ℕ) → has_met h.account m ≡ false

-- the account a' claims where a does, and has the same weight
pub record Alike (a a' : Account) : Type 0 where
  pub weight : a'.weight ≡ a.weight
  pub collecting : a'.collecting ≡ a.collecting
  pub exhausted : a'.exhausted ≡ a.exhausted
