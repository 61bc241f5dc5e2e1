-- When a pattern matches a text.
use Rattle.std.specs.Prelude.{ℕ, ◌==◌, Bool, ◌&&◌, ◌||◌, List, [], ◌∷◌, ◌++◌, map, bytes_eq}
use Rattle.std.specs.List.{list_any}

abbrev pub star : ℕ
star = 42

-- a part that a byte of a pattern matches: for a star any part, else the byte alone
abbrev pub is_part : ℕ → List ℕ → Bool
is_part b part = (b == star) || bytes_eq part (b ∷ [])

-- a front of a text, and the rest
pub record Cut : Type 0 where
  pub front : List ℕ
  pub rest : List ℕ

abbrev pub longer : ℕ → Cut → Cut
longer c cut = record { front = c ∷ cut.front; rest = cut.rest }

-- every cut of a text
abbrev pub cuts : List ℕ → List Cut
cuts [] = record { front = []; rest = [] } ∷ []
cuts (c ∷ text) = record { front = []; rest = c ∷ text } ∷ map (longer c) (cuts text)

-- the text can be cut into parts, one for each byte of the pattern in order
unfoldable pub matches : List ℕ → List ℕ → Bool
matches [] text = bytes_eq text []
matches (b ∷ pattern) text = list_any (λ cut. is_part b cut.front && matches pattern cut.rest) (cuts text)

-- what a rule is asked of a series: the actor's name, a point and the probe's name
abbrev pub series_name : List ℕ → List ℕ → List ℕ
series_name actor probe = actor ++ 46 ∷ probe
