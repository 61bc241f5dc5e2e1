-- How wide the tables of an account are.
use Rattle.std.specs.Prelude.{◌≡◌, ℕ, ◌<◌, List, [], length, get_or}

-- a row of numbers for each manager, and a number for each
pub record WidePairs (rows : List (List ℕ)) : Type 0 where
  pub high : length rows ≡ 16
  pub wide : (m : ℕ) → m < 16 → length (get_or rows m []) ≡ 16
