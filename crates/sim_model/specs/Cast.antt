-- Who is or was in a run.
use Rattle.std.specs.Prelude.{ℕ, ◌+◌, List, [], ◌∷◌}
use Rattle.sim_base.specs.declared.ids.ActorId.{ActorId}
use Rattle.actor_trait.specs.Meaning.{Meaning}
use Rattle.sim_model.specs.declared.cast.Member.{Member}
use Rattle.sim_model.specs.declared.kind.Kind.{Kind}
use Rattle.sim_model.specs.declared.setup.Start.{Start}

-- the kind of an actor in a state
abbrev pub kind_of : {A : Type 0} → Meaning A → A → Kind
kind_of m state = record { name = m.kind state; probes = m.probes state }

abbrev pub member : {A : Type 0} → Meaning A → ActorId → Start A → Member
member m id start = record { id = id; name = start.name; kind = kind_of m start.state }

-- the initial actors are numbered in their order
abbrev pub members_from : {A : Type 0} → Meaning A → ℕ → List (Start A) → List Member
members_from m n [] = []
members_from m n (start ∷ starts) = member m (record { 0 = n }) start ∷ members_from m (n + 1) starts
