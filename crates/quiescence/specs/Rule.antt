-- The rule of a round's table, and what a step tells.
use Rattle.std.specs.Prelude.{◌≡◌, ℕ, map}
use mathlib.Core.Option.{some}
use lib.ListN.{get_elem?}
use Rattle.atomic_table.specs.Table.{Me}
use Rattle.atomic_table.specs.Table as table
use Rattle.atomic_table.specs.Seated.{TableId}
use Rattle.quiet_core.specs.Account.{Shape, Account}
use Rattle.quiet_core.specs.declared.deed.Deed.{Deed}
use Rattle.quiet_core.specs.Step.{State, word, place, after}
use Rattle.quiet_core.specs.Balance.{Balance}

-- what contracts see of a round: its table, and its shape
pub record RoundId : Type 0 where
  pub table : TableId
  pub shape : Shape

-- what contracts see of a hand: its round, and what it has done there
pub record Holding : Type 0 where
  pub round : RoundId
  pub account : Account

-- what a seat sees: the shape of the round, and the account of its hand
pub record View : Type 0 where
  pub shape : Shape
  pub account : Account

-- the words of a table and the accounts in its views are the words and accounts of a round
abbrev pub state_of : table.State (Unit {0}) View → State
state_of s = record { words = s.words; accounts = map (λ v. v.account) s.views }

abbrev pub Kept : Shape → table.State (Unit {0}) View → Type 0
Kept t s = Balance t (state_of s)

-- at some state of the round, which has the balance, a hand has the account a
pub record Stands (t : Shape) (a : Account) : Type 0 where
  pub state : State
  pub hand : ℕ
  pub kept : Balance t state
  pub sits : get_elem? state.accounts hand ≡ some a

-- A hand did d: at some state of the round its account was a and the word of d was x, and its account became a'
pub record Did (t : Shape) (d : Deed) (a : Account) (x : ℕ) (a' : Account) : Type 0 where
  pub before : Stands t a
  pub found : word before.state (place t d) ≡ x
  pub account : a' ≡ after t d x a

-- a seat does d
abbrev pub Plays : Shape → Deed → Me (Unit {0}) View → ℕ → Me (Unit {0}) View → Type 0
Plays t d me x me' = (me'.1 ≡ me.1) × (me'.0.shape ≡ me.0.shape) × Did t d me.0.account x me'.0.account

-- a seat stays as it is, and its account stands in the round
abbrev pub SeesIt : Shape → Me (Unit {0}) View → Me (Unit {0}) View → Type 0
SeesIt t me me' = (me' ≡ me) × Stands t me.0.account
