-- Chains of checks, of which the first that fails is the refusal.
use Rattle.std.specs.Prelude.{◌≡◌, ℕ, List, take, Option, Some, None, Result, Ok, Err, Bool, if◌then◌else◌}
use Rattle.scenario.specs.declared.refusal.Place.{Place}
use Rattle.scenario.specs.declared.refusal.Refusal.{Refusal}
use Rattle.scenario.specs.declared.refusal.ScenarioFault.{ScenarioFault}
use Rattle.scenario.specs.declared.refusal.ScenarioFault.TheVariants.{Refused, Memory}

-- the answer, unless memory ran out
abbrev pub Gives : {A : Type 0} → Result A ScenarioFault → Result A Refusal → Type 0
Gives (Ok a) r = r ≡ Ok a
Gives (Err (Refused e)) r = r ≡ Err e
Gives (Err Memory) r = Unit {0}

infixl 10 ◌>>=◌
abbrev pub ◌>>=◌ : {A B : Type 0} → Result A Refusal → (A → Result B Refusal) → Result B Refusal
Ok a >>= f = f a
Err e >>= f = Err e

abbrev pub ok_map : {A B E : Type 0} → (A → B) → Result A E → Result B E
ok_map f (Ok a) = Ok (f a)
ok_map f (Err e) = Err e

abbrev pub or_else : {A : Type 0} → Refusal → Option A → Result A Refusal
or_else e None = Err e
or_else e (Some a) = Ok a

-- nothing where the test holds, else a refusal
abbrev pub unless : Bool → Refusal → Result (Unit {0}) Refusal
unless b e = if b then Ok tt else Err e

-- a field of an actor, or of the whole for 0
abbrev pub place_of : ℕ → List ℕ → Place
place_of actor field = record { actor = actor; field = take 64 field }
