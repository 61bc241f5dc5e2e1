-- The keys of letters.
use Rattle.std.specs.Prelude.{ℕ, List, ◌++◌}
use Rattle.std.specs.Cmp.Lexicographic.{slice_cmp}
use Rattle.std.specs.Int.{w32, w64, to_be_bytes}
use Rattle.std.specs.Ordering.{nat_cmp}
use Rattle.std.specs.declared.cmp.Ordering.{Ordering}
use Rattle.sha2.specs.Sha256.{sha256}
use Rattle.hash_seed.specs.declared.key.Key.{Key}

-- the 32 bytes that stand for a letter: each number with its highest byte first
abbrev pub letter_bytes : ℕ → ℕ → ℕ → ℕ → ℕ → ℕ → List ℕ
letter_bytes seed tick diasca recipient sender serial =
    to_be_bytes w64 seed ++ to_be_bytes w64 tick ++ to_be_bytes w32 diasca
    ++ to_be_bytes w32 recipient ++ to_be_bytes w32 sender ++ to_be_bytes w32 serial

-- ... and their digest
unfoldable pub letter_key : ℕ → ℕ → ℕ → ℕ → ℕ → ℕ → Key
letter_key seed tick diasca recipient sender serial =
    record { 0 = sha256 (letter_bytes seed tick diasca recipient sender serial) }

-- keys are ordered as bytes, the first byte first
abbrev pub key_cmp : Key → Key → Ordering
key_cmp x y = slice_cmp nat_cmp x.0 y.0
