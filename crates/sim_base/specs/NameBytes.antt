-- A name's bytes give its fields back.
use Rattle.std.specs.Prelude.{◌≡◌, ℕ, ◌-◌, ◌≤◌, List, ◌++◌, drop, length, replicate, take}
use Rattle.std.proofs.Common.{arith, ap, length-take, take-append-drop}
use Rattle.sim_base.specs.declared.name.Name.TheInside.{Inside}

pub fields_back : (n : Inside) → (1 ≤ n.len) × (n.len ≤ 32) × (length n.bytes ≡ 32) × (drop n.len n.bytes ≡ replicate (32 - n.len) 0)
    → ◌≡◌ {A = Inside} (record { bytes = take n.len n.bytes ++ replicate (32 - length (take n.len n.bytes)) 0; len = length (take n.len n.bytes) }) n
fields_back n h =
    let len : length (take n.len n.bytes) ≡ n.len = simp length-take (omega (arith, h.1, h.2)) in
    let bytes : take n.len n.bytes ++ replicate (32 - n.len) 0 ≡ n.bytes = rw (← h.3) (take-append-drop n.len n.bytes) in
    let whole : List ℕ → ℕ → Inside = λ b l. record { bytes = b; len = l } in
    rw len (ap (λ b. whole b n.len) bytes)
