-- Where a check failed, as a line tells it.
use Rattle.std.proofs.Common.{◌≡◌, ℕ, ◌==◌, List, [], ◌∷◌, ◌++◌, length, map, true, false, arith, codes, refl}
use Rattle.std.proofs.lemmas.Bool.{eqb-true}
use Rattle.std.proofs.lemmas.Bool.Decides.{nat_tests}
use Rattle.scenario.specs.declared.refusal.Place.{Place}
use Rattle.scenario.specs.RefusalLine.{actor_text, field_text, place_text, shown}

pub of_whole : (p : Place) → p.actor ≡ 0 → place_text p ≡ map shown p.field
of_whole p h = rw h refl

pub of_actor : (p : Place) → (p.actor ≡ 0 → ⊥) → place_text p ≡ actor_text p.actor p.field
of_actor p h = let e : (p.actor == 0) ≡ false = grind (arith, nat_tests) in rw e refl

pub no_field : (field : List ℕ) → (length field == 0) ≡ true → field_text field ≡ []
no_field [] h = refl
no_field (b ∷ field) h = absurd (let none : length (b ∷ field) ≡ 0 = eqb-true _ _ h in omega arith)

pub some_field : (field : List ℕ) → (length field == 0) ≡ false → field_text field ≡ codes " " ++ map shown field
some_field [] h = absurd (cc)
some_field (b ∷ field) h = refl
