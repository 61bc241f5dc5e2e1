-- A field's name gives its fields back.
use Rattle.std.specs.Prelude.{◌≡◌, ℕ, ◌-◌, ◌≤◌, List, ◌++◌, drop, length, replicate, take}
use Rattle.std.proofs.Common.{arith, ap, length-take, take-append-drop}
use Rattle.scenario.specs.declared.refusal.FieldText.TheInside.{Inside}

pub fields_back : (t : Inside) → (t.len ≤ 64) × (length t.bytes ≡ 64) × (drop t.len t.bytes ≡ replicate (64 - t.len) 0)
    → ◌≡◌ {A = Inside} (record { bytes = take t.len t.bytes ++ replicate (64 - length (take t.len t.bytes)) 0; len = length (take t.len t.bytes) }) t
fields_back t h =
    let len : length (take t.len t.bytes) ≡ t.len = simp length-take (omega (arith, h.0, h.1)) in
    let bytes : take t.len t.bytes ++ replicate (64 - t.len) 0 ≡ t.bytes = rw (← h.2) (take-append-drop t.len t.bytes) in
    let whole : List ℕ → ℕ → Inside = λ b l. record { bytes = b; len = l } in
    rw len (ap (λ b. whole b t.len) bytes)
