-- The draws of actors.
use Rattle.std.specs.Prelude.{ℕ, ◌%◌, List, [], ◌∷◌, ◌++◌, take}
use Rattle.std.specs.Int.{w32, w64, from_be_bytes, to_be_bytes}
use Rattle.sha2.specs.Sha256.{sha256}

-- the 29 bytes that stand for a draw: each number with its highest byte first, then the letter D
abbrev pub draw_bytes : ℕ → ℕ → ℕ → ℕ → ℕ → List ℕ
draw_bytes seed tick diasca actor k =
    to_be_bytes w64 seed ++ to_be_bytes w64 tick ++ to_be_bytes w32 diasca
    ++ to_be_bytes w32 actor ++ to_be_bytes w32 k ++ 0x44 ∷ []

-- the first 8 bytes of their digest, as a number with the highest byte first, modulo the bound
unfoldable pub draw : ℕ → ℕ → ℕ → ℕ → ℕ → ℕ → ℕ
draw seed tick diasca actor k bound =
    from_be_bytes w64 (take 8 (sha256 (draw_bytes seed tick diasca actor k))) % bound
