-- What the tests know of their hands.
use Rattle.std.specs.Prelude.{◌≡◌, ℕ, ◌<◌, true, false}
use Rattle.quiet_core.specs.Account.{root, fresh, Account, mark, has_met, posts, has_duty}
use Rattle.quiescence.specs.Rule.{RoundId, Holding}

-- a hand of the round, of weight 1
pub record One (r : RoundId) (h : Holding) : Type 0 where
  pub of : h.round ≡ r
  pub weight : h.account.weight ≡ 1

-- it claims, and has found no manager exhausted
pub record CanAct (r : RoundId) (h : Holding) : Type 0 where
  pub one : One r h
  pub claims : h.account.collecting ≡ false
  pub met_none : (m : ℕ) → has_met h.account m ≡ false

-- the account a' claims where a does, and has the same weight
pub record Alike (a a' : Account) : Type 0 where
  pub weight : a'.weight ≡ a.weight
  pub collecting : a'.collecting ≡ a.collecting
  pub exhausted : a'.exhausted ≡ a.exhausted

-- the round of three managers after nine steps: x may claim at 0, and y has claimed the number 1 there
pub record AtNine (r : RoundId) (x y : Holding) : Type 0 where
  pub x_one : One r x
  pub y_one : One r y
  pub claims : x.account.collecting ≡ false
  pub not_met : has_met x.account 0 ≡ false
  pub claimed : mark y.account 0 1 ≡ fresh
  pub sent : posts x.account 0 2 ≡ 2

-- after eleven: x has posted two letters from 0 to 2
pub record AtEleven (r : RoundId) (x y : Holding) : Type 0 where
  pub x_one : One r x
  pub y_one : One r y
  pub sent : posts x.account 0 2 ≡ 2

-- after sixteen: x holds the duty at 0
pub record AtSixteen (r : RoundId) (x y : Holding) : Type 0 where
  pub x_one : One r x
  pub y_one : One r y
  pub duty : has_duty x.account 0 ≡ true
  pub below : 0 < root r.shape
