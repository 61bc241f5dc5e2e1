-- What was taken of an input.
use Rattle.std.proofs.Common.{◌≡◌, ℕ, ◌≤◌, List, [], ◌++◌, drop, length, Option, Some, None, sym, ap, append-nil, ◌∙◌, arith, length-append}
use Rattle.std.proofs.Math.Seq.{drop-append_seam}
use Rattle.std.specs.Io.KnownBytes.{Consumes, IsAtEnd}

-- all of an input that is told was taken
pub taken_all : (left after : Option (List ℕ)) (bytes taken : List ℕ) → left ≡ Some bytes → Consumes left after taken → IsAtEnd after
    → (taken ≡ bytes) × (after ≡ Some [])
taken_all None after bytes taken told c end = cc
taken_all (Some xs) None bytes taken told c end = absurd c
taken_all (Some xs) (Some ys) bytes taken told c end =
    let same : xs ≡ bytes = cc in
    let all : xs ≡ taken ++ [] = rw end at c in
    (sym (all ∙ append-nil taken) ∙ same, ap Some end)

-- no more was taken than there was
pub taken_within : (left after : Option (List ℕ)) (bytes taken : List ℕ) → left ≡ Some bytes → Consumes left after taken → length taken ≤ length bytes
taken_within None after bytes taken told c = cc
taken_within (Some xs) None bytes taken told c = absurd c
taken_within (Some xs) (Some ys) bytes taken told c =
    let same : xs ≡ bytes = cc in omega (arith, ap length (sym same ∙ c), length-append taken ys)

-- what is left behind so many bytes
pub rest_left : (left after : Option (List ℕ)) (bytes taken : List ℕ) (n : ℕ) → left ≡ Some bytes → Consumes left after taken → length taken ≡ n
    → after ≡ Some (drop n bytes)
rest_left None after bytes taken n told c e = cc
rest_left (Some xs) None bytes taken n told c e = absurd c
rest_left (Some xs) (Some ys) bytes taken n told c e =
    let same : bytes ≡ taken ++ ys = let whole : xs ≡ bytes = cc in sym whole ∙ c in
    ap Some (rw (same, ← e) (sym (drop-append_seam taken ys)))
