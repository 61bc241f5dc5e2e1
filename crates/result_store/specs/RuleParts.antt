-- A rule as contracts see it.
use Rattle.std.specs.Prelude.{Bool, List, ℕ}

-- whether what its pattern matches is kept
pub record RuleParts : Type 0 where
  pub keeps : Bool
  pub pattern : List ℕ
