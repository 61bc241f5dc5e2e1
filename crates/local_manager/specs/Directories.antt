-- Who belongs to which manager, and what managers keep of the one agenda and of who is scheduled.
use Rattle.std.specs.Prelude.{◌≡◌, ℕ, ◌+◌, ◌-◌, ◌<◌, ◌≤◌, Bool, nat_lt, List, [], ◌∷◌, ◌++◌, Option, Some, None, length, min, replicate}
use Rattle.std.specs.Prelude.{slice_index_or, slice_set}
use Rattle.std.specs.List.{fold}
use Rattle.sim_base.specs.declared.ids.ActorId.{ActorId}
use Rattle.agenda.specs.Dues.{comes_before, least}
use Rattle.agenda.specs.declared.due.Due.{Due}
use Rattle.placement.specs.Placing.{place_of}
use Rattle.placement.specs.declared.policy.Policy.{Policy}
use Rattle.local_manager.specs.Merged.{union, IsSplit}

abbrev pub id_before : ActorId → ActorId → Bool
id_before a b = nat_lt a.0 b.0

-- the manager of an actor, by the managers of all so far
abbrev pub home_of : List ℕ → ActorId → ℕ
home_of homes id = slice_index_or homes (id.0 - 1) 0

abbrev pub home_of_due : List ℕ → Due → ℕ
home_of_due homes d = home_of homes d.actor

-- ---- placement of the living

-- the managers of all so far, and how many living actors each manager has
pub record Placed : Type 0 where
  pub homes : List ℕ
  pub loads : List ℕ

-- nobody yet
abbrev pub nobody : ℕ → Placed
nobody managers = record { homes = []; loads = replicate managers 0 }

-- one more actor, at the manager that the policy gives it
abbrev pub with_actor : Policy → Placed → ActorId → List ℕ → Placed
with_actor policy p id name =
    let home = place_of policy id.0 name p.loads in
    record { homes = p.homes ++ home ∷ []; loads = slice_set p.loads home (slice_index_or p.loads home 0 + 1) }

-- one that is gone counts no more
abbrev pub without_load : Placed → ActorId → Placed
without_load p id =
    let home = home_of p.homes id in
    record p { loads = slice_set p.loads home (slice_index_or p.loads home 0 - 1) }

-- these are gone, in their order
abbrev pub without_loads : Placed → List ActorId → Placed
without_loads p ids = fold without_load p ids

-- ---- what managers keep

-- what a contract sees of all managers
pub record Directed : Type 0 where
  pub placed : Placed
  pub agenda : List Due
  pub scheduled : List ActorId

abbrev pub AllBelow : ℕ → List ℕ → Type 0
AllBelow n [] = Unit {0}
AllBelow n (x ∷ xs) = (x < n) × AllBelow n xs

-- each has a manager already
abbrev pub AllPlaced : {X : Type 0} → (X → ActorId) → ℕ → List X → Type 0
AllPlaced id_of n [] = Unit {0}
AllPlaced id_of n (x ∷ xs) = ((id_of x).0 - 1 < n) × AllPlaced id_of n xs

-- each manager keeps what is its own of the one agenda and of who is scheduled
pub record Kept (homes loads : List ℕ) (agendas : List (List Due)) (lists : List (List ActorId)) : Type 0 where
  pub some : 1 ≤ length agendas
  pub few : length agendas ≤ 16
  pub lists_each : length lists ≡ length agendas
  pub loads_each : length loads ≡ length agendas
  pub places : AllBelow (length agendas) homes
  pub counts : AllBelow (length homes + 1) loads
  pub dues : IsSplit (home_of_due homes) (union comes_before agendas) agendas
  pub ids : IsSplit (home_of homes) (union id_before lists) lists

-- ---- the least tick of all managers

abbrev pub earlier : Option ℕ → Option ℕ → Option ℕ
earlier None b = b
earlier (Some a) None = Some a
earlier (Some a) (Some b) = Some (min a b)

-- the least of this tick and the least ticks of the lists
abbrev pub earliest : Option ℕ → List (List Due) → Option ℕ
earliest found [] = found
earliest found (p ∷ ps) = earliest (earlier found (least p)) ps
