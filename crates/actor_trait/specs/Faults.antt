-- The faults that an outcome shows.
use Rattle.std.specs.Prelude.{ℕ, Bool, false, ◌&&◌, ◌||◌, nat_le, nat_lt, if◌then◌else◌, List, length, Option, Some, None}
use Rattle.std.specs.List.{list_any}
use Rattle.std.specs.Option.{option_or}
use Rattle.sim_base.specs.declared.moment.Moment.{Moment}
use Rattle.actor_trait.specs.Meaning.{Meaning}
use Rattle.actor_trait.specs.declared.outcome.Outcome.{Outcome}
use Rattle.actor_trait.specs.declared.outcome.Sample.{Sample}

-- a code that a model may show
abbrev pub code_of : ℕ → Option ℕ
code_of n = if nat_le 1 n && nat_le n 899 then Some n else None

-- a tick that isn't after the present one
abbrev pub asks_past : ℕ → List ℕ → Bool
asks_past now ticks = list_any (λ t. nat_le t now) ticks

-- more than 1,024
abbrev pub is_too_many : {X : Type 0} → List X → Bool
is_too_many xs = nat_lt 1024 (length xs)

-- too many letters, ticks, births or samples
abbrev pub gives_too_many : {A : Type 0} → Outcome A → Bool
gives_too_many o = is_too_many o.sends || is_too_many o.ticks || is_too_many o.births || is_too_many o.samples

-- a sample of a probe that isn't among so many
abbrev pub samples_unknown : ℕ → List Sample → Bool
samples_unknown probes samples = list_any (λ s. nat_le probes s.probe) samples

-- a code where it is shown
abbrev pub when : Bool → ℕ → Option ℕ
when shown code = if shown then Some code else None

-- the model's own, then 900, 901, 902 where a birth is past the last number, and 903
abbrev pub fault_among : {A : Type 0} → Meaning A → Outcome A → Moment → Bool → Option ℕ
fault_among m o now past =
    option_or o.fault (option_or (when (asks_past now.tick o.ticks) 900) (option_or (when (gives_too_many o) 901)
    (option_or (when past 902) (when (samples_unknown (length (m.probes o.state)) o.samples) 903))))

-- what can be seen from one outcome alone
abbrev pub fault_shown : {A : Type 0} → Meaning A → Outcome A → Moment → Option ℕ
fault_shown m o now = fault_among m o now false
