-- The end of a round.
use Rattle.std.specs.Prelude.{◌≡◌, ℕ, ◌+◌, ◌*◌, ◌<◌, ◌≤◌, true, false, List, [], ◌∷◌, length, get_or, drop, min, sum, slice_range, Result, Ok, Err}
use mathlib.Core.Option.{some}
use lib.ListN.{get_elem?}
use Rattle.quiet_core.specs.Rows.{below}
use Rattle.quiet_core.specs.Account.{Shape, managers, root, Account, posts}
use Rattle.quiet_core.specs.Step.{issued_at}
use Rattle.quiet_core.specs.Balance.{Balance}
use Rattle.quiet_core.specs.Quiet.{Quiet}
use Rattle.quiescence.specs.Counts.{scheduled_in, reported_in, posted_in, acked_in, duties_in}
use Rattle.quiescence.specs.declared.ended.Unfinished.{Unfinished}

-- what contracts see of a round that is closed: how many actors were scheduled at each manager, and how many letters were posted for each pair of managers, row by row
pub record Closing : Type 0 where
  pub scheduled : List ℕ
  pub posted : List ℕ

-- the words of the pairs of managers, which stand behind all others
abbrev pub posted_words : Shape → List ℕ → List ℕ
posted_words t words = drop (issued_at t 0 0) words

abbrev pub closing : Shape → List ℕ → Closing
closing t words = record { scheduled = t.sched; posted = posted_words t words }

abbrev pub letters : Closing → ℕ → ℕ → ℕ
letters c m n = get_or c.posted (m * length c.scheduled + n) 0

-- a round is closed: Root is held, the account of all hands is quiet, and the numbers are the round's
pub record IsClosed (t : Shape) (a : Account) (c : Closing) : Type 0 where
  pub at_root : a.at_root ≡ true
  pub quiet : Quiet t.sched (a ∷ [])
  pub scheduled : c.scheduled ≡ t.sched
  pub pairs : length c.posted ≡ managers t * managers t
  pub posted : (m n : ℕ) → m < managers t → n < managers t → letters c m n ≡ posts a m n
  pub all_posted : sum c.posted ≡ posted_in t a

-- a round is not: Root isn't held, and the numbers tell what is left
pub record IsUnfinished (t : Shape) (a : Account) (u : Unfinished) : Type 0 where
  pub not_at_root : a.at_root ≡ false
  pub unreported : u.unreported + reported_in t a ≡ scheduled_in t
  pub unacked : u.unacked + acked_in t a ≡ posted_in t a
  pub unclimbed : u.unclimbed ≡ duties_in t a
  pub something : 1 ≤ u.unreported + u.unacked + u.unclimbed

abbrev pub IsFinish : Shape → Account → Result Closing Unfinished → Type 0
IsFinish t a (Ok c) = IsClosed t a c
IsFinish t a (Err u) = IsUnfinished t a u

-- at the end of the table its words are these, and a hand has the account a
pub record Ends (t : Shape) (a : Account) (words : List ℕ) : Type 0 where
  pub accounts : List Account
  pub hand : ℕ
  pub kept : Balance t record { words = words; accounts = accounts }
  pub sits : get_elem? accounts hand ≡ some a

-- the words of the inner nodes, and how many nodes below the root have a word that isn't 0
abbrev pub inner_words : Shape → List ℕ → List ℕ
inner_words t words = slice_range words (managers t) (root t + 1)

abbrev pub working_in : Shape → List ℕ → ℕ
working_in t words = below (λ c. min (get_or words c 0) 1) (root t)
