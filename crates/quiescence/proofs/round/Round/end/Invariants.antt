use Rattle.std.proofs.Common.{◌≡◌, ◌<◌, ℕ, length, get_or}
use Rattle.std.specs.Slots.{slots_items}
use mathlib.Core.Option.{some}
use lib.ListN.{get_elem?}
use Rattle.quiescence.proofs.round.Round.end.Given as goal

abbrev pub invariant-loop-place : goal.invariant-loop-place
invariant-loop-place l = (length l.words.items ≡ length l.initial.words.items) × ((k : ℕ) → k < l.place → get_elem? (slots_items l.closed.words) k ≡ some (get_or l.words.items k 0))
