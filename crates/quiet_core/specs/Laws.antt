-- Laws of the definitions, over lists of words and of accounts of any length.
use Rattle.std.specs.Prelude.{◌≡◌, ◌≢◌, ℕ, ◌<◌, ◌≤◌, ◌↔◌, true, length, Ok}
use Rattle.quiet_core.specs.Account.{Shape}
use Rattle.quiet_core.specs.Step.{State, May}
use Rattle.quiet_core.specs.Balance.{Balance}
use Rattle.quiet_core.specs.Quiet.{Quiet}
use Rattle.quiet_core.specs.Conditions.{verdict}
use Rattle.quiet_core.specs.Event.{Move, does, joins, splits, conditions, moved, account_of}

-- a move of which no condition fails keeps the balance
abbrev pub MovesKeepBalance : Type 0
MovesKeepBalance = (t : Shape) (s : State) (m : Move) → Balance t s → verdict (conditions t s m) ≡ Ok tt → Balance t (moved t s m)

-- with the balance, a round whose Root is held is quiet
abbrev pub RootIsQuiet : Type 0
RootIsQuiet = (t : Shape) (s : State) (h : ℕ) → Balance t s → h < length s.accounts → (account_of s h).at_root ≡ true → Quiet t.sched s.accounts

-- what a move asks, in one piece: its hands are those of the round and have weight, and what the deed, the join or the split asks of them
abbrev pub Allowed : Shape → State → Move → Type 0
Allowed t s (does h d) = (h < length s.accounts) × May t d (account_of s h)
Allowed t s (joins h g) = (h < length s.accounts) × (g < length s.accounts) × (1 ≤ (account_of s h).weight) × (1 ≤ (account_of s g).weight) × (g ≢ h)
Allowed t s (splits h g) = (h < length s.accounts) × (g < length s.accounts) × (2 ≤ (account_of s h).weight) × (g ≢ h) × ((account_of s g).weight ≡ 0)

-- no condition fails exactly where the move is allowed
abbrev pub NoOtherCondition : Type 0
NoOtherCondition = (t : Shape) (s : State) (m : Move) → verdict (conditions t s m) ≡ Ok tt ↔ Allowed t s m
