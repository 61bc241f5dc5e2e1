-- Which texts are rules, and what rules select.
use Rattle.std.specs.Prelude.{◌≡◌, ℕ, ◌+◌, ◌==◌, Bool, true, false, ◌&&◌, ◌||◌, nat_le, if◌then◌else◌, List, [], ◌∷◌, length, reverse, Option, Some, None, Result, Ok, Err, option_map}
use Rattle.std.specs.List.{find, list_all}
use Rattle.std.specs.Option.{unwrap_or}
use Rattle.sim_base.specs.Names.{is_name_byte}
use Rattle.result_store.specs.Patterns.{matches}
use Rattle.result_store.specs.RuleParts.{RuleParts}
use Rattle.result_store.specs.declared.rules.RulesFault.{RulesFault}
use Rattle.result_store.specs.declared.rules.RulesFault.TheVariants.{BadRule, Memory}

-- a to z, 0 to 9, _, -, . and *
abbrev pub is_pattern_byte : ℕ → Bool
is_pattern_byte b = is_name_byte b || (b == 45) || (b == 46) || (b == 42)

abbrev pub is_pattern : List ℕ → Bool
is_pattern bytes = nat_le 1 (length bytes) && nat_le (length bytes) 64 && list_all is_pattern_byte bytes

-- whether a rule with this first byte keeps: + does, - doesn't, and no other is a rule's
abbrev pub sign_of : ℕ → Option Bool
sign_of b = if b == 43 then Some true else (if b == 45 then Some false else None)

-- a sign, and then a pattern
abbrev pub rule_of : List ℕ → Option RuleParts
rule_of [] = None
rule_of (sign ∷ pattern) = if is_pattern pattern then option_map (λ keeps. record { keeps = keeps; pattern = pattern }) (sign_of sign) else None

abbrev pub before : RuleParts → Result (List RuleParts) ℕ → Result (List RuleParts) ℕ
before rule (Ok rules) = Ok (rule ∷ rules)
before rule (Err n) = Err n

abbrev pub rule_and : ℕ → Option RuleParts → Result (List RuleParts) ℕ → Result (List RuleParts) ℕ
rule_and n None more = Err n
rule_and n (Some rule) more = before rule more

-- the rules of texts, the first of which has this number; or the number of the first that is none
abbrev pub rules_from : ℕ → List (List ℕ) → Result (List RuleParts) ℕ
rules_from n [] = Ok []
rules_from n (text ∷ texts) = rule_and n (rule_of text) (rules_from (n + 1) texts)

abbrev pub rules_of : List (List ℕ) → Result (List RuleParts) ℕ
rules_of texts = rules_from 1 texts

-- the answer, unless memory ran out
abbrev pub Gives : {A : Type 0} → Result A RulesFault → Result A ℕ → Type 0
Gives (Ok a) r = r ≡ Ok a
Gives (Err (BadRule n)) r = r ≡ Err n
Gives (Err Memory) r = Unit {0}

-- of the rules that match, the last
abbrev pub decision : List RuleParts → List ℕ → Option RuleParts
decision rules text = find (λ r. matches r.pattern text) (reverse rules)

-- where no rule matches, nothing is kept
abbrev pub keeps : List RuleParts → List ℕ → Bool
keeps rules text = unwrap_or (option_map (λ r. r.keeps) (decision rules text)) false
