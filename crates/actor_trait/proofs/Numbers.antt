-- The order of numbers.
use Rattle.std.proofs.Common.{◌≡◌, ◌≢◌, ℕ, ◌<◌, Bool, true, false, cond, ◌==◌, nat_lt, refl, arith}
use Rattle.std.proofs.lemmas.Bool.Decides.{nat_tests}
use Rattle.std.specs.Ordering.{is_lt, nat_cmp}
use Rattle.std.specs.declared.cmp.Ordering.TheVariants.{Equal, Greater, Less}

pub is_lt-nat_cmp : (x y : ℕ) → is_lt (nat_cmp x y) ≡ nat_lt x y
is_lt-nat_cmp x y = by (nat_lt x y) (x == y)
  where
    by : (b c : Bool) → is_lt (cond b Less (cond c Equal Greater)) ≡ b
    by true c = refl
    by false true = refl
    by false false = refl

pub equal_numbers : (x y : ℕ) → nat_cmp x y ≡ Equal → x ≡ y
equal_numbers x y e = by (nat_lt x y) (x == y) refl e
  where
    by : (b c : Bool) → (x == y) ≡ c → cond b Less (cond c Equal Greater) ≡ Equal → x ≡ y
    by true c h k = absurd (cc)
    by false true h k = grind (arith, nat_tests)
    by false false h k = absurd (cc)

pub unequal_less : (x y : ℕ) → nat_cmp x y ≡ Less → x ≢ y
unequal_less x y e = by (nat_lt x y) (x == y) refl e
  where
    by : (b c : Bool) → nat_lt x y ≡ b → cond b Less (cond c Equal Greater) ≡ Less → x ≢ y
    by true c h k = grind (arith, nat_tests)
    by false true h k = absurd (cc)
    by false false h k = absurd (cc)

pub unequal_greater : (x y : ℕ) → nat_cmp x y ≡ Greater → x ≢ y
unequal_greater x y e = by (nat_lt x y) (x == y) refl e
  where
    by : (b c : Bool) → (x == y) ≡ c → cond b Less (cond c Equal Greater) ≡ Greater → x ≢ y
    by true c h k = absurd (cc)
    by false true h k = absurd (cc)
    by false false h k = grind (arith, nat_tests)

pub not_less : (x y : ℕ) → x < y → is_lt (nat_cmp y x) ≡ false
not_less x y h = rw (is_lt-nat_cmp y x) (grind (arith, nat_tests))
