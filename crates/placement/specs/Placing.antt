-- The manager of a new actor.
use Rattle.std.specs.Prelude.{ℕ, ◌+◌, ◌-◌, ◌%◌, ◌<◌, nat_le, List, length, slice_index, slice_set, sum}
use Rattle.std.specs.List.{list_all, position_or_len}
use Rattle.placement.specs.declared.policy.Policy.{Policy}
use Rattle.placement.specs.declared.policy.Policy.TheVariants.{RoundRobin, ByName, LeastLoaded}

-- the first place whose load is at most each load
abbrev pub least_loaded : List ℕ → ℕ
least_loaded loads = position_or_len (λ load. list_all (nat_le load) loads) loads

-- the place among these loads of an actor with this number and this name
abbrev pub place_of : Policy → (id : ℕ) (name loads : List ℕ) → ℕ
place_of RoundRobin id name loads = (id - 1) % length loads
place_of ByName id name loads = sum name % length loads
place_of LeastLoaded id name loads = least_loaded loads

-- one actor more at a manager
abbrev pub counted : List ℕ → ℕ → List ℕ
counted loads manager = slice_set loads manager (slice_index loads manager + 1)

-- each load is less
abbrev pub AreBelow : ℕ → List ℕ → Type 0
AreBelow most loads = (manager : ℕ) → manager < length loads → slice_index loads manager < most
