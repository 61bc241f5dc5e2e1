-- The number that a word writes.
use Rattle.std.proofs.Common.{◌≡◌, ℕ, zero, suc, ◌<◌, ◌≤◌, List, [], ◌∷◌, length, true, ◌&&◌, nat_le, refl, ap, sym, ◌∙◌, arith, Result, Ok}
use Rattle.std.proofs.lemmas.Bool.{and_parts}
use Rattle.std.proofs.lemmas.Bool.Decides.{nat_tests}
use Rattle.std.proofs.lemmas.Str.{IsUtf8-from_ascii}
use Rattle.std.proofs.lemmas.Str.Parse.{IsNumeralModel, numerals_by_value, parse_gives, digits_value_short, tells_all_ascii_digits}
use Rattle.std.specs.Char.{is_ascii_digit}
use Rattle.std.specs.List.{list_all}
use Rattle.std.specs.Str.{IsAscii, IsUtf8, all_ascii_digits}
use Rattle.std.specs.Str.Parse.{ParsesUnsigned, digits_value}
use Rattle.sim_top.specs.Words.{is_number}

all_digits : (bs : List ℕ) → list_all is_ascii_digit bs ≡ all_ascii_digits bs
all_digits [] = refl
all_digits (b ∷ bs) = ap (λ rest. is_ascii_digit b && rest) (all_digits bs)

own : IsNumeralModel (λ ds. all_ascii_digits ds ≡ true) (digits_value 10)
own = numerals_by_value _ tells_all_ascii_digits

pub parsed : {E : Type 0} (bs : List ℕ) (r : Result ℕ E) → ParsesUnsigned 64 10 bs r → list_all is_ascii_digit bs ≡ true
    → 0 < length bs → length bs ≤ 10 → r ≡ Ok (digits_value 10 bs)
parsed bs r h digits some few =
    let ascii : all_ascii_digits bs ≡ true = sym (all_digits bs) ∙ digits in
    parse_gives own 64 bs r h ascii some (omega (arith, digits_value_short own bs 10 ascii few))

digit_byte : (b : ℕ) → is_ascii_digit b ≡ true → b < 128
digit_byte b h = grind (arith, nat_tests)

digits_ascii : (bs : List ℕ) → list_all is_ascii_digit bs ≡ true → IsAscii bs
digits_ascii [] h i = omega arith
digits_ascii (b ∷ bs) h zero = digit_byte b (and_parts (is_ascii_digit b) _ h).0
digits_ascii (b ∷ bs) h (suc i) = digits_ascii bs (and_parts (is_ascii_digit b) _ h).1 i

pub digits_utf8 : (bs : List ℕ) → list_all is_ascii_digit bs ≡ true → IsUtf8 bs
digits_utf8 bs h = IsUtf8-from_ascii bs (digits_ascii bs h)

-- what the test of a number says
pub number_parts : (bs : List ℕ) → is_number bs ≡ true → (0 < length bs) × (length bs ≤ 10) × (list_all is_ascii_digit bs ≡ true)
number_parts bs h =
    let p = and_parts (nat_le 1 (length bs) && nat_le (length bs) 10) (list_all is_ascii_digit bs) h in
    let q = and_parts (nat_le 1 (length bs)) (nat_le (length bs) 10) p.0 in
    (grind (arith, nat_tests), grind (arith, nat_tests), p.1)
