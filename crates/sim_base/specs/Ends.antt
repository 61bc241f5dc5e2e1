-- The sources and sinks in memory.
use Rattle.std.specs.Prelude.{ℕ, ◌+◌, ◌-◌, ◌^◌, ◌==◌, min, Bool, ◌||◌, List, length, Option, if◌then◌else◌}
use Rattle.std.specs.List.{list_any}
use Rattle.sim_base.specs.declared.source.Taken.{Taken}
use Rattle.sim_base.specs.declared.source.Taken.TheVariants as taken
use Rattle.sim_base.specs.declared.sink.Put.{Put}
use Rattle.sim_base.specs.declared.sink.Put.TheVariants as put

-- a source that never fails: the bytes that are left, and how many a call gives at most
pub record Feed : Type 0 where
  pub left : List ℕ
  pub cut : ℕ

-- how many bytes the next call gives into so much room
abbrev pub given : Feed → ℕ → ℕ
given f room = min (min (length f.left) f.cut) room

-- the calls that were made and those of them, from 1, that fail; how often one has failed
pub record Calls : Type 0 where
  pub made : ℕ
  pub failing : List ℕ
  pub failed : ℕ

-- the number of the next call
abbrev pub next_call : Calls → ℕ
next_call c = min (c.made + 1) (2 ^ 64 - 1)

abbrev pub fails_next : Calls → Bool
fails_next c = list_any (λ k. k == next_call c) c.failing

abbrev pub after_failure : Calls → Calls
after_failure c = record c { failed = min (c.failed + 1) (2 ^ 64 - 1) }

abbrev pub after_call : Calls → Calls
after_call c = record c { made = next_call c }

-- a source that fails at some calls
pub record FailingFeed : Type 0 where
  pub feed : Feed
  pub calls : Calls

abbrev pub taken_of : FailingFeed → ℕ → Taken
taken_of f room = if fails_next f.calls then taken.Failed else taken.Bytes (given f.feed room)

-- a sink: the bytes that it holds, how many it may hold, and how many a call takes at most
pub record Hold : Type 0 where
  pub bytes : List ℕ
  pub room : ℕ
  pub cut : ℕ
  pub calls : Calls

abbrev pub put_of : Hold → ℕ → Put
put_of h piece =
    if fails_next h.calls || (h.room == length h.bytes) then put.Failed else put.Bytes (min (min (h.room - length h.bytes) h.cut) piece)

-- a reader as a source: the bytes that it has left, where it tells them, and how often it has failed
pub record Inflow : Type 0 where
  pub left : Option (List ℕ)
  pub faults : ℕ

-- a writer as a sink: the bytes that it holds, where it tells them, and how often it has failed
pub record Outflow : Type 0 where
  pub held : Option (List ℕ)
  pub faults : ℕ
