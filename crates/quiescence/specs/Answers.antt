-- What the calls of a round answer.
use Rattle.std.specs.Prelude.{◌≡◌, ◌≢◌, ℕ, suc, ◌+◌, ◌-◌, ◌<◌, ◌≤◌, true, false}
use Rattle.quiet_core.specs.Rows.{put, put_pair}
use Rattle.quiet_core.specs.Account.{Shape, managers, scheduled, root, free, fresh, told, Account, mark, posts, acks, collects, has_duty, owing}
use Rattle.quiet_core.specs.declared.deed.Deed.{Deed}
use Rattle.quiet_core.specs.Step.{place, put_mark}
use Rattle.quiescence.specs.Rule.{Did}
use Rattle.quiescence.specs.declared.answers.Claim.{Claim}
use Rattle.quiescence.specs.declared.answers.Claim.TheVariants.{Claimed, Exhausted}
use Rattle.quiescence.specs.declared.answers.Turn.{Turn}
use Rattle.quiescence.specs.declared.answers.Turn.TheVariants.{Yours, Taken}
use Rattle.quiescence.specs.declared.answers.After.{After}
use Rattle.quiescence.specs.declared.answers.After.TheVariants.{Left, Duty, Root}

-- the number that a claim and a turn found
abbrev pub found_by : Claim → ℕ
found_by (Claimed i) = i
found_by (Exhausted x) = x

abbrev pub found_at : Turn → ℕ
found_at Yours = 0
found_at Taken = 1

-- a hand did d, whatever it found
abbrev pub Happened : Shape → Deed → Account → Account → Type 0
Happened t d a a' = (x : ℕ) × Did t d a x a'

-- a place below the number of the scheduled is claimed, which the hand had not; any other says that the manager is exhausted
abbrev pub IsClaim : Shape → ℕ → Account → Claim → Account → Type 0
IsClaim t m a (Claimed i) a' = (i < scheduled t m) × (mark a m i ≡ free) × (a' ≡ put_mark a m i fresh)
IsClaim t m a (Exhausted x) a' = (scheduled t m ≤ x) × (a' ≡ record a { exhausted = put false a.exhausted m true })

-- n letters less are left to post, and the hand knows as many as it found and added
abbrev pub IsPost : ℕ → ℕ → ℕ → ℕ → Account → Account → Type 0
IsPost m i to n a a' = (x : ℕ) × (posts a m to ≤ x)
    × (a' ≡ record (put_mark a m i (told (owing (mark a m i) - n))) { posted = put_pair a.posted m to (posts a m to + n); known = put_pair a.known m to (x + n) })

-- who has the turn had acknowledged nothing to n, and collects now
abbrev pub IsTurn : Shape → ℕ → Account → Turn → Account → Type 0
IsTurn t n a Yours a' = ((m : ℕ) → m < managers t → acks a m n ≡ 0) × (a' ≡ record a { collected = put 0 a.collected n 1 })
IsTurn t n a Taken a' = a' ≡ a

-- who has the turn did not collect for n before
abbrev pub IsFirstTurn : ℕ → Account → Turn → Type 0
IsFirstTurn n a Yours = collects a n ≡ 0
IsFirstTurn n a Taken = Unit {0}

-- for a hand of the whole weight the turn is taken exactly where it collects already
abbrev pub IsOwnTurn : ℕ → Account → Turn → Type 0
IsOwnTurn n a Yours = collects a n ≡ 0
IsOwnTurn n a Taken = collects a n ≡ 1

-- the answer at the node j, whose word has become x
abbrev pub IsAfter : Shape → ℕ → ℕ → After → Type 0
IsAfter t j x (Left y) = (y ≡ x) × (1 ≤ x)
IsAfter t j x (Duty k) = (k.0 ≡ j) × (x ≡ 0) × (j < root t)
IsAfter t j x Root = (x ≡ 0) × (j ≡ root t)

-- a duty that comes of a climb from the node c is at a greater node
abbrev pub IsHigher : ℕ → After → Type 0
IsHigher c (Left y) = Unit {0}
IsHigher c (Duty k) = c < k.0
IsHigher c Root = Unit {0}

-- the hand holds no duty; and none but the one that was answered
abbrev pub NoDuty : Account → Type 0
NoDuty a = (c : ℕ) → has_duty a c ≡ false

abbrev pub OnlyDuty : After → Account → Type 0
OnlyDuty (Left y) a = NoDuty a
OnlyDuty (Duty k) a = (c : ℕ) → c ≢ k.0 → has_duty a c ≡ false
OnlyDuty Root a = NoDuty a

-- how many climbs there may be to the root
abbrev pub way_up : ℕ → After → ℕ
way_up top (Left y) = 0
way_up top (Duty k) = suc (top - k.0)
way_up top Root = 0

-- what the hand holds by the answer: the duty at the node, or Root
abbrev pub holding : After → Account → Account
holding (Left y) a = a
holding (Duty k) a = record a { duties = put false a.duties k.0 true }
holding Root a = record a { at_root = true }

-- so the duty is held, at a node below the root, or Root is
abbrev pub Holds : Shape → After → Account → Type 0
Holds t (Left y) a = Unit {0}
Holds t (Duty k) a = (k.0 < root t) × (has_duty a k.0 ≡ true)
Holds t Root a = a.at_root ≡ true

-- k letters more from m to n are acknowledged
abbrev pub acked_more : ℕ → ℕ → ℕ → Account → Account
acked_more m n k a = record a { acked = put_pair a.acked m n (acks a m n + k) }

-- the duty at c is given up
abbrev pub relieved : ℕ → Account → Account
relieved c a = record a { duties = put false a.duties c false }

-- a hand did d, which took k from its word, and the answer tells what was left
pub record Took (t : Shape) (d : Deed) (k : ℕ) (a : Account) (r : After) (a' : Account) : Type 0 where
  pub found : ℕ
  pub event : Did t d a found a'
  pub enough : k ≤ found
  pub answer : IsAfter t (place t d) (found - k) r
