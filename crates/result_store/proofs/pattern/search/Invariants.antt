use Rattle.std.proofs.Common.{◌≡◌, ◌≢◌, ℕ, ◌+◌, ◌-◌, ◌*◌, ◌<◌, ◌≤◌, ◌↔◌, ◌⊎◌, length, drop, get_or}
use Rattle.result_store.specs.Patterns.{star}
use Rattle.result_store.proofs.Cuts.{Later}
use Rattle.result_store.proofs.Parts.{Matches}
use Rattle.result_store.proofs.pattern.search.Given as goal

abbrev pub invariant-bytes : goal.invariant-bytes
invariant-bytes l = record {
  in_pattern : l.at ≤ length l.pattern;
  in_text : l.read ≤ length l.text;
  behind : l.after ≤ l.at;
  taken : l.taken ≤ l.read;
  aligned : l.read + l.after ≡ l.taken + l.at;
  plain : (j : ℕ) → l.after ≤ j → j < l.at → get_or l.pattern j 0 ≢ star;
  same : Matches l.pattern l.text ↔ (Matches (drop l.at l.pattern) (drop l.read l.text) ⊎ Later l.pattern l.text l.after l.taken);
}

-- a star, or one byte more for the last star, counts for more than all bytes of the text
abbrev pub decreases-bytes : goal.decreases-bytes
decreases-bytes l = (length l.pattern + length l.text - (l.after + l.taken)) * (length l.text + 1) + (length l.text - l.read)
