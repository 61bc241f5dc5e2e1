-- Ascending lists without repeats, and lists that are kept in parts.
use Rattle.std.specs.Prelude.{◌≡◌, ℕ, Bool, true, false, nat_eq, if◌then◌else◌, List, [], ◌∷◌, Some, slice_get}
use Rattle.std.specs.List.{filter}

-- one more, at its place; one that is there changes nothing
abbrev pub insert : {X : Type 0} → (X → X → Bool) → X → List X → List X
insert lt x [] = x ∷ []
insert lt x (y ∷ ys) = if lt x y then x ∷ y ∷ ys else (if lt y x then y ∷ insert lt x ys else y ∷ ys)

abbrev pub insert_all : {X : Type 0} → (X → X → Bool) → List X → List X → List X
insert_all lt done [] = done
insert_all lt done (x ∷ xs) = insert_all lt (insert lt x done) xs

-- all parts in one list
unfoldable pub union : {X : Type 0} → (X → X → Bool) → List (List X) → List X
union lt [] = []
union lt (p ∷ ps) = insert_all lt (union lt ps) p

abbrev pub Precedes : {X : Type 0} → (X → X → Bool) → X → List X → Type 0
Precedes lt x [] = Unit {0}
Precedes lt x (y ∷ ys) = (lt x y ≡ true) × Precedes lt x ys

-- each comes before all later ones
abbrev pub IsRising : {X : Type 0} → (X → X → Bool) → List X → Type 0
IsRising lt [] = Unit {0}
IsRising lt (x ∷ xs) = Precedes lt x xs × IsRising lt xs

pub record IsOrder {X : Type 0} (lt : X → X → Bool) : Type 0 where
  pub one_way : (x y : X) → lt x y ≡ true → lt y x ≡ false
  pub chains : (x y z : X) → lt x y ≡ true → lt y z ≡ true → lt x z ≡ true

-- what the order can't tell apart is one
abbrev pub IsTotal : {X : Type 0} → (X → X → Bool) → Type 0
IsTotal {X} lt = (x y : X) → lt x y ≡ false → lt y x ≡ false → x ≡ y

-- those whose home is this one
abbrev pub at_home : {X : Type 0} → (X → ℕ) → ℕ → List X → List X
at_home home m xs = filter (λ x. nat_eq (home x) m) xs

-- each part has those of the list whose home it is
abbrev pub IsSplit : {X : Type 0} → (X → ℕ) → List X → List (List X) → Type 0
IsSplit {X} home all parts = (m : ℕ) (p : List X) → slice_get parts m ≡ Some p → p ≡ at_home home m all
