-- Where the letters to each recipient stand in a list that has them side by side.
use Rattle.std.specs.Prelude.{◌≡◌, ◌≢◌, ℕ, ◌+◌, ◌-◌, ◌<◌, ◌≤◌, Bool, false, ◌==◌, List, [], length, Some, slice_get, slice_index_or, slice_range}
use Rattle.std.specs.List.{filter}
use Rattle.std.specs.Option.{option_map_or}
use Rattle.sim_base.specs.declared.ids.ActorId.{ActorId}
use Rattle.actor_trait.specs.InboxOrder.{is_to}
use Rattle.actor_trait.specs.declared.letter.Letter.{Letter}

-- from start on, up to end, stand the letters to this recipient, and these are all
pub record IsRun (letters : List Letter) (start end : ℕ) (to : ActorId) : Type 0 where
  pub some : start < end
  pub within : end ≤ length letters
  pub first : (d : Letter) → (slice_index_or letters start d).to.0 ≡ to.0
  pub all : slice_range letters start end ≡ filter (is_to to) letters

-- the letters of one end where those of the next begin
abbrev pub end_of : List Letter → List ℕ → ℕ → ℕ
end_of letters starts i = slice_index_or starts (i + 1) (length letters)

-- the recipients ascend, each has its letters from its start on, and nobody else has any
pub record IsIndex (letters : List Letter) (recipients : List ActorId) (starts : List ℕ) : Type 0 where
  pub many : length starts ≡ length recipients
  pub rising : (i j : ℕ) (r q : ActorId) → i < j → slice_get recipients i ≡ Some r → slice_get recipients j ≡ Some q → r.0 < q.0
  pub runs : (i start : ℕ) (r : ActorId) → slice_get recipients i ≡ Some r → slice_get starts i ≡ Some start
      → IsRun letters start (end_of letters starts i) r
  pub others : (a : ActorId) → ((i : ℕ) (r : ActorId) → slice_get recipients i ≡ Some r → r.0 ≢ a.0) → filter (is_to a) letters ≡ []

-- whether an actor is the last recipient so far
abbrev pub is_last : List ActorId → ActorId → Bool
is_last recipients to = option_map_or (λ r. r.0 == to.0) (slice_get recipients (length recipients - 1)) false
