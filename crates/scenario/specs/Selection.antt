-- The rules of the field results.
use Rattle.std.specs.Prelude.{ℕ, List, [], ◌∷◌, Result, Ok, Err, codes}
use Rattle.serde_json.specs.Data.{Data}
use Rattle.result_store.specs.RuleParts.{RuleParts}
use Rattle.result_store.specs.Rules.{rules_of}
use Rattle.scenario.specs.Fields.{texts_or}
use Rattle.scenario.specs.declared.refusal.Refusal.{Refusal}
use Rattle.scenario.specs.declared.refusal.Refusal.TheVariants.{BadRule}

-- at most 256 texts; where the field isn't there, one rule that keeps all
abbrev pub results_of : Data → Result (List (List ℕ)) Refusal
results_of d = texts_or (codes "results") (codes "+*" ∷ []) 256 d

abbrev pub bad_rule : Result (List RuleParts) ℕ → Result (List RuleParts) Refusal
bad_rule (Ok rules) = Ok rules
bad_rule (Err n) = Err (BadRule n)

abbrev pub rules_in : List (List ℕ) → Result (List RuleParts) Refusal
rules_in texts = bad_rule (rules_of texts)
