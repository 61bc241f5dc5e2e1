-- A list, and beside it how much room it has.
use Rattle.std.specs.Prelude.{ℕ, List, refl}
use Rattle.std.specs.Coded.{Coded, code_by, coded×, coded_ℕ, coded_list}

-- `spare` more items go in without taking memory
pub record Room (T : Type 0) : Type 0 where
  pub list : List T
  pub spare : ℕ

-- stored as the pair of its fields
abbrev pub room_code : {T : Type 0} → Coded T → Coded (Room T)
room_code {T} code =
    code_by
    (List T × ℕ)
    (coded× (coded_list code) coded_ℕ)
    (λ r. (r.list, r.spare))
    (λ p. record { list = p.0; spare = p.1 })
    (λ _. refl)
