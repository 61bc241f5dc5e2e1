-- What a contract sees of a store of letters.
use Rattle.std.specs.Prelude.{ℕ, ◌-◌, List, [], length, slice_index_or}
use Rattle.std.specs.List.{sum_by}
use Rattle.actor_trait.specs.declared.letter.Letter.{Letter}

-- the list of each recipient from 0 to `top`, and how many more letters go in without taking memory
pub record Letters : Type 0 where
  pub lists : List (List Letter)
  pub spare : ℕ

abbrev pub list_of : Letters → ℕ → List Letter
list_of s id = slice_index_or s.lists id []

abbrev pub top_of : Letters → ℕ
top_of s = length s.lists - 1

-- how many letters there are
abbrev pub letter_count : Letters → ℕ
letter_count s = sum_by length s.lists
