use Rattle.std.proofs.Common.{◌≡◌, ◌++◌, map, ◌+◌, ◌≤◌, length, take}
use Rattle.std.specs.Prelude.{vec_len, vec_capacity}
use Rattle.hash_lanes.specs.Batch.{key_of}
use Rattle.hash_lanes.proofs.batch.put_each.Given as goal

abbrev pub invariant-loop-letter : goal.invariant-loop-letter
invariant-loop-letter l =
    (l.keys.items ≡ l.fn.keys.items ++ map (key_of l.seed l.tick l.diasca) (take l.letter-index l.letters))
    × (vec_len l.keys ≡ vec_len l.fn.keys + l.letter-index) × (vec_len l.fn.keys + length l.letters ≤ vec_capacity l.keys)
