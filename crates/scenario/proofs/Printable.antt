-- Texts that are ASCII, and lists of values.
use Rattle.std.proofs.Common.{◌≡◌, ℕ, zero, suc, ◌+◌, ◌<◌, List, [], ◌∷◌, ◌++◌, length, get_or, take, Bool, true, false, refl, sym}
use Rattle.std.proofs.Common.{ap, ◌∙◌, arith, nat_le, ◌==◌, ◌&&◌, if◌then◌else◌, rules, String, Global, string_bytes, Option, Some, None, option_map, is_some, Result, Ok, Err}
use Rattle.std.proofs.lemmas.Bool.{and_parts, eqb-true}
use Rattle.std.proofs.lemmas.Bool.Decides.{nat_tests}
use Rattle.std.proofs.lemmas.List.{take_more}
use Rattle.std.proofs.lemmas.Str.{IsUtf8-from_ascii}
use Rattle.std.specs.Str.{IsUtf8, IsAscii}
use Rattle.std.specs.List.{list_all}
use Rattle.serde_json.specs.Data.{string, Items, no_items, item}
use Rattle.serde_json.specs.View.{view, items_view}
use Rattle.serde_json.specs.declared.value.Value.{Value, the_lemmas}
use Rattle.serde_json.specs.declared.value.Value.TheVariants as values
use Rattle.result_store.specs.RuleParts.{RuleParts}
use Rattle.result_store.specs.Rules.{is_pattern, is_pattern_byte, rule_and, rule_of, rules_from, sign_of}
use Rattle.sim_base.specs.Names.{is_name, is_name_byte}
use Rattle.sim_model.specs.declared.setup.Start.{Start}
use Rattle.scenario.specs.Print.{actor_tree, actor_trees, text_trees}
use Rattle.scenario.specs.Valid.{AreNamed, AreNames, AreOpening, IsOpening, is_rule, names_in}
use Rattle.scenario.specs.declared.any_actor.AnyActor.{AnyActor}

name_byte : (b : ℕ) → is_name_byte b ≡ true → b < 128
name_byte b h = grind (arith, nat_tests)

pattern_byte : (b : ℕ) → is_pattern_byte b ≡ true → b < 128
pattern_byte b h = grind (arith, nat_tests)

ascii : (p : ℕ → Bool) → ((b : ℕ) → p b ≡ true → b < 128) → (bs : List ℕ) → list_all p bs ≡ true → IsAscii bs
ascii p small [] h i = omega arith
ascii p small (b ∷ bs) h zero = small b (and_parts (p b) _ h).0
ascii p small (b ∷ bs) h (suc i) = ascii p small bs (and_parts (p b) _ h).1 i

pub name_utf8 : (bs : List ℕ) → is_name bs ≡ true → IsUtf8 bs
name_utf8 bs h = IsUtf8-from_ascii bs (ascii is_name_byte name_byte bs (and_parts (nat_le 1 (length bs) && nat_le (length bs) 32) (list_all is_name_byte bs) h).1)

sign_byte : (b : ℕ) → is_some (sign_of b) ≡ true → b < 128
sign_byte b h = here (b == 43) (b == 45) refl refl h
  where
    here : (plus minus : Bool) → (b == 43) ≡ plus → (b == 45) ≡ minus → is_some (if plus then Some true else (if minus then Some false else None)) ≡ true → b < 128
    here true minus p m h = let same = eqb-true b 43 p in omega arith
    here false true p m h = let same = eqb-true b 45 m in omega arith
    here false false p m h = absurd (cc)

both_some : (b : Bool) (o : Option RuleParts) → is_some (if b then o else None) ≡ true → (b ≡ true) × (is_some o ≡ true)
both_some true o h = (refl, h)
both_some false o h = absurd (cc)

some_before : (f : Bool → RuleParts) (o : Option Bool) → is_some (option_map f o) ≡ true → is_some o ≡ true
some_before f (Some b) h = refl
some_before f None h = absurd (cc)

front_ascii : (b : ℕ) (bs : List ℕ) → b < 128 → IsAscii bs → IsAscii (b ∷ bs)
front_ascii b bs h all zero = h
front_ascii b bs h all (suc i) = all i

pub rule_utf8 : (bs : List ℕ) → is_rule bs ≡ true → IsUtf8 bs
rule_utf8 [] h = absurd (cc)
rule_utf8 (b ∷ bs) h =
    let made : Bool → RuleParts = λ keeps. record { keeps = keeps; pattern = bs } in
    let parts = both_some (is_pattern bs) (option_map made (sign_of b)) h in
    let bytes = and_parts (nat_le 1 (length bs) && nat_le (length bs) 64) (list_all is_pattern_byte bs) parts.0 in
    IsUtf8-from_ascii (b ∷ bs) (front_ascii b bs (sign_byte b (some_before made (sign_of b) parts.1)) (ascii is_pattern_byte pattern_byte bs bytes.1))

-- texts that were read as rules are rules
first_good : (n : ℕ) (o : Option RuleParts) (more : Result (List RuleParts) ℕ) (found : List RuleParts) → rule_and n o more ≡ Ok found → (is_some o ≡ true) × ((rest : List RuleParts) × (more ≡ Ok rest))
first_good n None more found h = absurd (cc)
first_good n (Some rule) (Err m) found h = absurd (cc)
first_good n (Some rule) (Ok rest) found h = (refl, (rest, refl))

pub rules_good : (n : ℕ) (ts : List (List ℕ)) (found : List RuleParts) → rules_from n ts ≡ Ok found → list_all is_rule ts ≡ true
rules_good n [] found h = refl
rules_good n (t ∷ ts) found h =
    let first = first_good n (rule_of t) (rules_from (n + 1) ts) found h in
    rw (first.0, rules_good (n + 1) ts first.1.0 first.1.1) refl

pub view-String : (s : String Global) → view (values.String s) ≡ string (string_bytes s)
view-String s = search (rules, the_lemmas)

-- ---- lists of values

abbrev pub join : Items → Items → Items
join no_items ys = ys
join (item d xs) ys = item d (join xs ys)

pub items_view-append : (vs ws : List Value) → items_view (vs ++ ws) ≡ join (items_view vs) (items_view ws)
items_view-append [] ws = refl
items_view-append (v ∷ vs) ws = ap (item (view v)) (items_view-append vs ws)

pub text_trees-append : (ts us : List (List ℕ)) → text_trees (ts ++ us) ≡ join (text_trees ts) (text_trees us)
text_trees-append [] us = refl
text_trees-append (t ∷ ts) us = ap (item (string t)) (text_trees-append ts us)

actor_trees-append : (names : List (List ℕ)) (ss us : List (Start AnyActor)) → actor_trees names (ss ++ us) ≡ join (actor_trees names ss) (actor_trees names us)
actor_trees-append names [] us = refl
actor_trees-append names (s ∷ ss) us = ap (item (actor_tree names s)) (actor_trees-append names ss us)

pub one_more_text : (ts : List (List ℕ)) (i : ℕ) (t : List ℕ) (vs : List Value) (v : Value) → i < length ts → t ≡ get_or ts i t → items_view vs ≡ text_trees (take i ts) → view v ≡ string t
    → items_view (vs ++ v ∷ []) ≡ text_trees (take (i + 1) ts)
one_more_text ts i t vs v h is so_far e =
    items_view-append vs (v ∷ []) ∙ ap (λ d. join (items_view vs) (item d no_items)) e ∙ ap (λ ds. join ds (item (string t) no_items)) so_far
    ∙ sym (ap text_trees (take_more ts i t h) ∙ text_trees-append (take i ts) _ ∙ ap (λ u. join (text_trees (take i ts)) (item (string u) no_items)) (sym is))

pub one_more_actor : (names : List (List ℕ)) (ss : List (Start AnyActor)) (i : ℕ) (s : Start AnyActor) (vs : List Value) (v : Value) → i < length ss → s ≡ get_or ss i s → items_view vs ≡ actor_trees names (take i ss)
    → view v ≡ actor_tree names s → items_view (vs ++ v ∷ []) ≡ actor_trees names (take (i + 1) ss)
one_more_actor names ss i s vs v h is so_far e =
    let tree = λ (s : Start AnyActor). actor_tree names s in
    items_view-append vs (v ∷ []) ∙ ap (λ d. join (items_view vs) (item d no_items)) e ∙ ap (λ ds. join ds (item (tree s) no_items)) so_far
    ∙ sym (ap (actor_trees names) (take_more ss i s h) ∙ actor_trees-append names (take i ss) _ ∙ ap (λ u. join (actor_trees names (take i ss)) (item (tree u) no_items)) (sym is))

pub opening_at : (count : ℕ) (ss : List (Start AnyActor)) (i : ℕ) (d : Start AnyActor) → i < length ss → AreOpening count ss → IsOpening count (get_or ss i d).state
opening_at count [] i d h all = absurd (omega arith)
opening_at count (s ∷ ss) zero d h all = all.0
opening_at count (s ∷ ss) (suc i) d h all = opening_at count ss i d (omega arith) all.1

pub good_rule_at : (ts : List (List ℕ)) (i : ℕ) (d : List ℕ) → i < length ts → list_all is_rule ts ≡ true → is_rule (get_or ts i d) ≡ true
good_rule_at [] i d h all = absurd (omega arith)
good_rule_at (t ∷ ts) zero d h all = (and_parts (is_rule t) _ all).0
good_rule_at (t ∷ ts) (suc i) d h all = good_rule_at ts i d (omega arith) (and_parts (is_rule t) _ all).1

pub all_named : (earlier : List (List ℕ)) (ss : List (Start AnyActor)) → AreNamed earlier (names_in ss) → AreNames ss
all_named earlier [] named i d h = absurd (omega arith)
all_named earlier (s ∷ ss) named zero d h = named.0
all_named earlier (s ∷ ss) named (suc i) d h = all_named (earlier ++ s.name ∷ []) ss named.2 i d (omega arith)
