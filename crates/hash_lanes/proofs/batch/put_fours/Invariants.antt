use Rattle.std.proofs.Common.{◌≡◌, ◌++◌, map, ◌+◌, ◌*◌, ◌≤◌, length, take}
use Rattle.std.specs.Prelude.{vec_len, vec_capacity}
use Rattle.hash_lanes.specs.Batch.{key_of}
use Rattle.hash_lanes.proofs.batch.put_fours.Given as goal

abbrev pub invariant-fours : goal.invariant-fours
invariant-fours l =
    (l.keys.items ≡ l.fn.keys.items ++ map (key_of l.seed l.tick l.diasca) (take (4 * l.i) l.letters))
    × (vec_len l.keys ≡ vec_len l.fn.keys + 4 * l.i) × (vec_len l.fn.keys + length l.letters ≤ vec_capacity l.keys)
