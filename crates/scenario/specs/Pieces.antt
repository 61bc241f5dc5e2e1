-- Lines that are written piece by piece.
use Rattle.std.specs.Prelude.{◌≡◌, ℕ, ◌≤◌, List, length, take, Option, Result, Ok, Err}
use Rattle.std.specs.Io.KnownBytes.{Appends}
use Rattle.sim_base.specs.Outside.{one_more}

-- these bytes were written, and the sink didn't fail
pub record Wrote (before after : Option (List ℕ)) (faults_before faults_after : ℕ) (bytes : List ℕ) : Type 0 where
  pub wrote : Appends before after bytes
  pub sound : faults_after ≡ faults_before

-- a front of these bytes was written, and then the sink failed
pub record Broke (before after : Option (List ℕ)) (faults_before faults_after : ℕ) (bytes : List ℕ) : Type 0 where
  pub count : ℕ
  pub within : count ≤ length bytes
  pub wrote : Appends before after (take count bytes)
  pub fails : faults_after ≡ one_more faults_before

-- what a call that was to write these bytes did to a sink
abbrev pub Writes : {E X : Type 0} → (E → Option (List ℕ)) → (E → ℕ) → E → E → Result (Unit {0}) X → List ℕ → Type 0
Writes written faults before after (Ok u) bytes = Wrote (written before) (written after) (faults before) (faults after) bytes
Writes written faults before after (Err e) bytes = Broke (written before) (written after) (faults before) (faults after) bytes
