-- What a clock does.
use Rattle.std.specs.Prelude.{ℕ, ◌+◌, ◌-◌, ◌^◌, min, pos, ◌+ℤ◌, int_lt, Bool, false, if◌then◌else◌, List, [], ◌∷◌, ◌++◌, None, codes}
use Rattle.std.specs.Int.{w64, saturate_signed}
use Rattle.actor_trait.specs.Meaning.{Meaning}
use Rattle.actor_trait.specs.Seen.{Seen}
use Rattle.actor_trait.specs.declared.context.Context.{Context}
use Rattle.actor_trait.specs.declared.outcome.Outcome.{Outcome}
use Rattle.actor_trait.specs.ClockFields.{ClockFields}

-- while beats are left, the tick one period later, at most the last of a u64
abbrev pub next_beat : ClockFields → Context → List ℕ
next_beat s c = if int_lt s.beats s.count then min (c.now.tick + s.period) (2 ^ 64 - 1) ∷ [] else []

-- one beat more, at most the last of an i64
abbrev pub beat : ClockFields → Bool → ClockFields
beat s spontaneous = record s { beats = if spontaneous then saturate_signed w64 (s.beats +ℤ pos 1) else s.beats }

-- it asks for its first beat at its first event, and for the next one at each beat
abbrev pub clock_acts : ClockFields → Context → Seen → Outcome ClockFields
clock_acts s c e =
    let after = beat s e.spontaneous in
    record {
      state = after;
      sends = [];
      ticks = (if e.first then next_beat s c else []) ++ (if e.spontaneous then next_beat after c else []);
      births = [];
      samples = (if e.spontaneous then record { probe = 0; value = after.beats } ∷ [] else []);
      retire = false;
      fault = None;
    }

abbrev pub clock_meaning : Meaning ClockFields
clock_meaning = record { acts = clock_acts; kind = λ _. codes "clock"; probes = λ _. codes "beats" ∷ [] }
