-- What holds of the accounts once the root is reached. It speaks of no tree and of no word.
use Rattle.std.specs.Prelude.{◌≡◌, ℕ, ◌<◌, false, List, length, slice_index, sum_by}
use Rattle.quiet_core.specs.Account.{Account, mark, posts, acks, has_duty, opened, owing, done}
use Rattle.quiet_core.specs.Balance.{Each}

-- every scheduled actor is reported once, nothing is open, owed or held, and every letter is acknowledged
pub record Quiet (sched : List ℕ) (xs : List Account) : Type 0 where
  pub reported_once : (m i : ℕ) → m < length sched → i < slice_index sched m → sum_by (λ a. done (mark a m i)) xs ≡ 1
  pub none_open : (m i : ℕ) → Each xs (λ a. opened (mark a m i) ≡ 0)
  pub none_owed : (m i : ℕ) → Each xs (λ a. owing (mark a m i) ≡ 0)
  pub no_duty : (c : ℕ) → Each xs (λ a. has_duty a c ≡ false)
  pub all_acked : (m n : ℕ) → sum_by (λ a. acks a m n) xs ≡ sum_by (λ a. posts a m n) xs
