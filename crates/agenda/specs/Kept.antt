-- What a contract sees of an agenda.
use Rattle.std.specs.Prelude.{ℕ, List}
use Rattle.agenda.specs.declared.due.Due.{Due}

-- the pairs, how many more have room, and the greatest id that may be added
pub record Kept : Type 0 where
  pub pairs : List Due
  pub spare : ℕ
  pub top : ℕ
