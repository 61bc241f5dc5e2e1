-- How much an account has done, over all managers.
use Rattle.std.specs.Prelude.{ℕ}
use Rattle.quiet_core.specs.Rows.{below, bit}
use Rattle.quiet_core.specs.Account.{Shape, managers, scheduled, root, Account, mark, posts, has_duty, done}
use Rattle.quiet_core.specs.Balance.{acked_at}

-- the scheduled actors of the round
abbrev pub scheduled_in : Shape → ℕ
scheduled_in t = below (λ m. scheduled t m) (managers t)

-- the actors that it has reported, at one manager and at all
abbrev pub done_at : Shape → Account → ℕ → ℕ
done_at t a m = below (λ i. done (mark a m i)) (scheduled t m)

abbrev pub reported_in : Shape → Account → ℕ
reported_in t a = below (λ m. done_at t a m) (managers t)

-- the letters that it has posted, from one manager and from all
abbrev pub posted_at : Shape → Account → ℕ → ℕ
posted_at t a m = below (λ n. posts a m n) (managers t)

abbrev pub posted_in : Shape → Account → ℕ
posted_in t a = below (λ m. posted_at t a m) (managers t)

-- the letters that it has acknowledged
abbrev pub acked_in : Shape → Account → ℕ
acked_in t a = below (λ m. acked_at t m a) (managers t)

-- the duties that it holds
abbrev pub duties_in : Shape → Account → ℕ
duties_in t a = below (λ c. bit (has_duty a c)) (root t)
