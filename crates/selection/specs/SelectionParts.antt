-- A selection as contracts see it: by actor the places of its flags, one for each probe.
use Rattle.std.specs.Prelude.{ℕ, ◌+◌, ◌≤◌, Bool, true, nat_lt, if◌then◌else◌, List, slice_index_or}
use Rattle.sim_base.specs.declared.ids.ActorId.{ActorId}
use Rattle.selection.specs.declared.selection.Span.{Span}

pub record SelectionParts : Type 0 where
  pub spans : List Span
  pub flags : List Bool

-- an actor past the last has no flags
abbrev pub span_of : List Span → ℕ → Span
span_of spans id = slice_index_or spans id (record { start = 0; len = 0 })

-- the flag of a probe of one actor; true, where there is none
abbrev pub flag_of : List Bool → Span → ℕ → Bool
flag_of flags span probe = if nat_lt probe span.len then slice_index_or flags (span.start + probe) true else true

-- whether a sample of this actor and this probe may stand in the text
abbrev pub may_show : SelectionParts → ActorId → ℕ → Bool
may_show s actor probe = flag_of s.flags (span_of s.spans actor.0) probe

-- the flags of all actors are among so many
abbrev pub AreWithin : List Span → ℕ → Type 0
AreWithin spans count = (id : ℕ) → (span_of spans id).start + (span_of spans id).len ≤ count
