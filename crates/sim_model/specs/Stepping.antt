-- Steps of private loops.
use Rattle.std.specs.Prelude.{ℕ, ◌≤◌, Bool, true, false, nat_eq, nat_lt, if◌then◌else◌, List, [], ◌∷◌, Option, Some, None}
use Rattle.sim_base.specs.declared.ids.ActorId.{ActorId}
use Rattle.agenda.specs.declared.due.Due.{Due}

-- ---- taking out what is due at a tick

-- no tick is below this one or below one before it
abbrev pub RisesFrom : ℕ → List Due → Type 0
RisesFrom n [] = Unit {0}
RisesFrom n (d ∷ ds) = (n ≤ d.tick) × RisesFrom d.tick ds

-- the first actor, if it asked for this tick
abbrev pub first_at : ℕ → List Due → Option ActorId
first_at tick [] = None
first_at tick (d ∷ ds) = if nat_eq d.tick tick then Some d.actor else None

-- the pairs without that one
abbrev pub rest_at : ℕ → List Due → List Due
rest_at tick [] = []
rest_at tick (d ∷ ds) = if nat_eq d.tick tick then ds else d ∷ ds

-- ---- making one list of two that ascend

-- the lesser of the two that stand first
abbrev pub least_of : List ActorId → List ActorId → Option ActorId
least_of [] [] = None
least_of [] (y ∷ ys) = Some y
least_of (x ∷ xs) [] = Some x
least_of (x ∷ xs) (y ∷ ys) = Some (if nat_lt y.0 x.0 then y else x)

-- the list behind an actor, if that one stands first
abbrev pub behind : List ActorId → ActorId → List ActorId
behind [] id = []
behind (x ∷ xs) id = if nat_eq x.0 id.0 then xs else x ∷ xs

-- ---- what comes next

-- whether there is somebody
abbrev pub is_occupied : List ActorId → Bool
is_occupied [] = false
is_occupied (id ∷ ids) = true
