-- What a walk takes from one node.
use Rattle.std.specs.Prelude.{◌≡◌, ℕ, ◌<◌, ◌≤◌, Bool, false, cond, nat_eq, min, List, [], ◌∷◌, slice_index_or, Option, Some, None}
use Rattle.sim_base.specs.declared.ids.ActorId.{ActorId}
use Rattle.agenda.specs.declared.due.Due.{Due}

-- 1 for a pair of the tick
abbrev pub count_in : ℕ → Option Due → ℕ
count_in tick None = 0
count_in tick (Some d) = cond (nat_eq d.tick tick) 1 0

-- whether it is a pair of the tick
abbrev pub asks : ℕ → Option Due → Bool
asks tick None = false
asks tick (Some d) = nat_eq d.tick tick

-- the actor of a pair of the tick
abbrev pub asker : ℕ → Option Due → List ActorId
asker tick None = []
asker tick (Some d) = cond (nat_eq d.tick tick) (d.actor ∷ []) []

abbrev pub tick_in : Option Due → List ℕ
tick_in None = []
tick_in (Some d) = d.tick ∷ []

-- the lesser of two numbers, where there are two
abbrev pub lesser : Option ℕ → Option ℕ → Option ℕ
lesser None o = o
lesser (Some t) None = Some t
lesser (Some t) (Some u) = Some (min t u)

-- the least of the first n of a row of numbers
abbrev pub LeastOf : (ℕ → Option ℕ) → ℕ → Option ℕ → Type 0
LeastOf f n None = (k : ℕ) → k < n → f k ≡ None
LeastOf f n (Some t) = ((k : ℕ) × (k < n) × (f k ≡ Some t)) × ((k u : ℕ) → k < n → f k ≡ Some u → t ≤ u)

-- the least of the first n numbers of a list
abbrev pub IsLeastBelow : List (Option ℕ) → ℕ → Option ℕ → Type 0
IsLeastBelow ls n o = LeastOf (λ k. slice_index_or ls k None) n o
