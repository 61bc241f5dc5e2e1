-- What the next byte of a pattern is to a byte of the text.
use Rattle.std.specs.Prelude.{◌≡◌, ◌≢◌, ℕ, ◌<◌, ◌≤◌, ◌⊎◌, List, length, slice_index}
use Rattle.result_store.specs.Patterns.{star}
use Rattle.result_store.specs.declared.pattern.Turn.{Turn}
use Rattle.result_store.specs.declared.pattern.Turn.TheVariants.{Star, Same, Apart}

abbrev pub IsTurn : Turn → List ℕ → ℕ → ℕ → Type 0
IsTurn Star p at c = (at < length p) × (slice_index p at ≡ star)
IsTurn Same p at c = (at < length p) × (slice_index p at ≢ star) × (slice_index p at ≡ c)
IsTurn Apart p at c = (length p ≤ at) ⊎ ((at < length p) × (slice_index p at ≢ star) × (slice_index p at ≢ c))
