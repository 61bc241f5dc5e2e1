-- The tree of a text.
use Rattle.std.proofs.Common.{◌≡◌, ℕ, List, Bool, true, false, Some, None, Err, if◌then◌else◌, refl, ap, ◌∙◌}
use Rattle.std.specs.Str.{IsUtf8, is_utf8}
use Rattle.std.proofs.lemmas.Str.{IsUtf8-from_is_utf8, is_utf8-from_IsUtf8}
use Rattle.serde_json.specs.Data.{Data}
use Rattle.serde_json.specs.Read.{read}
use Rattle.scenario.specs.Answers.{or_else, ◌>>=◌}
use Rattle.scenario.specs.Format.{tree_of, scenario_in, scenario_of}
use Rattle.scenario.specs.declared.refusal.Refusal.TheVariants.{NotJson}

pub tree_of-read : (bs : List ℕ) (d : Data) → IsUtf8 bs → read bs ≡ Some d → tree_of bs ≡ Some d
unfolding tree_of
tree_of-read bs d text e = ap (λ b. if b then read bs else None) (is_utf8-from_IsUtf8 bs text) ∙ e

either : (bs : List ℕ) (b : Bool) → is_utf8 bs ≡ b → (IsUtf8 bs → read bs ≡ None) → (if b then read bs else None) ≡ None
either bs true e h = h (IsUtf8-from_is_utf8 bs e)
either bs false e h = refl

tree_of-refused : (bs : List ℕ) → (IsUtf8 bs → read bs ≡ None) → tree_of bs ≡ None
unfolding tree_of
tree_of-refused bs h = either bs (is_utf8 bs) refl h

pub scenario_of-read : (bs : List ℕ) (d : Data) → IsUtf8 bs → read bs ≡ Some d → scenario_of bs ≡ scenario_in d
unfolding scenario_of
scenario_of-read bs d text e = ap (λ o. or_else NotJson o >>= scenario_in) (tree_of-read bs d text e)

pub scenario_of-refused : (bs : List ℕ) → (IsUtf8 bs → read bs ≡ None) → scenario_of bs ≡ Err NotJson
unfolding scenario_of
scenario_of-refused bs h = ap (λ o. or_else NotJson o >>= scenario_in) (tree_of-refused bs h)
