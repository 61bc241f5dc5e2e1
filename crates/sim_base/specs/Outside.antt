-- What a source gives and what a sink gets, and the causes of their refusals.
use Rattle.std.specs.Prelude.{◌≡◌, ℕ, ◌+◌, ◌-◌, ◌^◌, ◌<◌, ◌≤◌, min, List, length, take, Option}
use Rattle.std.specs.Io.KnownBytes.{Consumes, Appends, Keeps, IsAtEnd}
use Rattle.sim_base.specs.declared.source.Taken.{Taken}
use Rattle.sim_base.specs.declared.source.Taken.TheVariants as taken
use Rattle.sim_base.specs.declared.sink.Put.{Put}
use Rattle.sim_base.specs.declared.sink.Put.TheVariants as put

-- a count of faults after one more, which stands still at the end of u64
abbrev pub one_more : ℕ → ℕ
one_more count = min (count + 1) (2 ^ 64 - 1)

-- a count of faults rose, or stands at its last value
abbrev pub Rose : ℕ → ℕ → Type 0
Rose before now = one_more before ≤ now

-- what an answer of `take` says of the number
abbrev pub TakesAtMost : Taken → List ℕ → Type 0
TakesAtMost (taken.Bytes n) into = n ≤ length into
TakesAtMost taken.Failed into = Unit {0}

-- ... of the bytes
abbrev pub TakesFrom : Option (List ℕ) → Option (List ℕ) → Taken → List ℕ → Type 0
TakesFrom before after (taken.Bytes n) into = Consumes before after (take n into) × (n ≡ 0 → IsAtEnd after)
TakesFrom before after taken.Failed into = Keeps before after

-- ... of the count of faults: it rises by one at a failure, and at nothing else
abbrev pub TakeCause : ℕ → ℕ → Taken → Type 0
TakeCause before now (taken.Bytes n) = now ≡ before
TakeCause before now taken.Failed = (before ≤ now) × (now ≡ one_more before)

-- what an answer of `put` says of the number
abbrev pub PutsAtMost : Put → List ℕ → Type 0
PutsAtMost (put.Bytes n) piece = (0 < n) × (n ≤ length piece)
PutsAtMost put.Failed piece = Unit {0}

-- ... of the bytes
abbrev pub PutsTo : Option (List ℕ) → Option (List ℕ) → Put → List ℕ → Type 0
PutsTo before after (put.Bytes n) piece = Appends before after (take n piece)
PutsTo before after put.Failed piece = Keeps before after

-- ... of the count of faults: it rises by one at a failure, and at nothing else
abbrev pub PutCause : ℕ → ℕ → Put → Type 0
PutCause before now (put.Bytes n) = now ≡ before
PutCause before now put.Failed = (before ≤ now) × (now ≡ one_more before)

-- so many bytes were taken
pub record TakesExactly (before after : Option (List ℕ)) (count : ℕ) : Type 0 where
  pub taken : List ℕ
  pub consumes : Consumes before after taken
  pub exactly : length taken ≡ count

-- at most so many bytes were taken
pub record TakesWithin (before after : Option (List ℕ)) (most : ℕ) : Type 0 where
  pub taken : List ℕ
  pub consumes : Consumes before after taken
  pub within : length taken ≤ most

-- the first so many of these bytes were written
pub record PutsFront (before after : Option (List ℕ)) (bytes : List ℕ) (count : ℕ) : Type 0 where
  pub appends : Appends before after (take count bytes)
  pub within : count ≤ length bytes

-- what an answer of a put into a writer says of the bytes that the writer holds: where it failed, some bytes of the piece,
-- if any, were written once, since a flush may be refused after a write
abbrev pub PutsOnce : Option (List ℕ) → Option (List ℕ) → Put → List ℕ → Type 0
PutsOnce before after (put.Bytes n) piece = Appends before after (take n piece)
PutsOnce before after put.Failed piece = (n : ℕ) × PutsFront before after piece n
