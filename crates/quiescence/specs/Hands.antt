-- What a hand keeps.
use Rattle.std.specs.Prelude.{◌≡◌, ℕ, ◌≤◌, []}
use Rattle.atomic_table.specs.Table.{Me}
use Rattle.quiet_core.specs.Account.{Shape}
use Rattle.quiescence.specs.Rule.{View, Stands}
use Rattle.quiescence.specs.Counts.{reported_in, acked_in}

-- it has no slot of the table, its account has weight and stands in the round, and its two counts are those of the account
pub record IsHand (t : Shape) (me : Me (Unit {0}) View) (reported acked : ℕ) : Type 0 where
  pub no_slot : me.1 ≡ []
  pub has_weight : 1 ≤ me.0.account.weight
  pub stands : Stands t me.0.account
  pub reported_is : reported ≡ reported_in t me.0.account
  pub acked_is : acked ≡ acked_in t me.0.account
