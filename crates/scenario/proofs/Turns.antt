-- The turns of a loop that reads a list: what was read so far, followed by the rest.
use Rattle.std.proofs.Common.{◌≡◌, ℕ, ◌+◌, ◌<◌, ◌≤◌, List, [], ◌∷◌, ◌++◌, length, drop, get_or, Bor, Result, Ok, Err, Option, Some, None, option_map, option_and_then, refl, sym, ap, ◌∙◌, append_assoc, append-nil}
use Rattle.std.proofs.lemmas.List.{at_drop_more, at_drop_all}
use Rattle.serde_json.specs.Find.{as_str}
use Rattle.serde_json.specs.View.{view, items_view}
use Rattle.serde_json.specs.declared.value.Value.{Value}
use Rattle.scenario.specs.Answers.{◌>>=◌, Gives, ok_map}
use Rattle.scenario.specs.Fields.{all_texts}
use Rattle.scenario.specs.declared.refusal.Refusal.{Refusal}
use Rattle.scenario.specs.declared.refusal.ScenarioFault.{ScenarioFault}
use Rattle.scenario.specs.declared.refusal.ScenarioFault.TheVariants.{Memory, Refused}

abbrev pub after : {A : Type 0} → List A → Result (List A) Refusal → Result (List A) Refusal
after xs r = ok_map (λ ys. xs ++ ys) r

pub after-none : {A : Type 0} (r : Result (List A) Refusal) → after [] r ≡ r
after-none (Ok ys) = refl
after-none (Err e) = refl

abbrev pub and_then : {A : Type 0} → A → Result (List A) Refusal → Result (List A) Refusal
and_then x r = r >>= (λ rest. Ok (x ∷ rest))

pub after-and_then : {A : Type 0} (xs : List A) (x : A) (r : Result (List A) Refusal) → after xs (and_then x r) ≡ after (xs ++ x ∷ []) r
after-and_then xs x (Ok ys) = ap Ok (sym (append_assoc xs (x ∷ []) ys))
after-and_then xs x (Err e) = refl

-- where the item is the one at its place
pub turn_at : {X A : Type 0} (f : List X → Result (List A) Refusal) (xs : List X) (i : ℕ) (d : X) (done : List A) (a : A) (rest all : Result (List A) Refusal)
    → i < length xs → f (get_or xs i d ∷ drop (i + 1) xs) ≡ and_then a rest → all ≡ after done (f (drop i xs)) → all ≡ after (done ++ a ∷ []) rest
turn_at f xs i d done a rest all h here so_far = so_far ∙ ap (after done) (at_drop_more f xs i d h ∙ here) ∙ after-and_then done a rest

pub refused_at : {X A : Type 0} (f : List X → Result (List A) Refusal) (xs : List X) (i : ℕ) (d : X) (done : List A) (e : Refusal) (all : Result (List A) Refusal)
    → i < length xs → f (get_or xs i d ∷ drop (i + 1) xs) ≡ Err e → all ≡ after done (f (drop i xs)) → all ≡ Err e
refused_at f xs i d done e all h here so_far = so_far ∙ ap (after done) (at_drop_more f xs i d h ∙ here)

pub ended : {X A : Type 0} (f : List X → Result (List A) Refusal) (xs : List X) (i : ℕ) (done : List A) (all : Result (List A) Refusal)
    → length xs ≤ i → f [] ≡ Ok [] → all ≡ after done (f (drop i xs)) → all ≡ Ok done
ended f xs i done all h empty so_far = so_far ∙ at_drop_all (λ ys. after done (f ys)) xs i h ∙ ap (after done) empty ∙ ap Ok (append-nil done)

-- a fault of an item is the fault of the whole
pub refused_by : {X A B : Type 0} (f : List X → Result (List A) Refusal) (one : Result B Refusal) (more : B → Result (List A) Refusal) (xs : List X) (i : ℕ) (d : X) (done : List A) (fault : ScenarioFault) (all : Result (List A) Refusal)
    → i < length xs → f (get_or xs i d ∷ drop (i + 1) xs) ≡ (one >>= more) → Gives {A = B} (Err fault) one → all ≡ after done (f (drop i xs)) → Gives {A = List A} (Err fault) all
refused_by f one more xs i d done Memory all h here gives so_far = tt
refused_by f one more xs i d done (Refused e) all h here gives so_far = refused_at f xs i d done e all h (here ∙ ap (λ r. r >>= more) gives) so_far

-- what a text is read as past the end
abbrev pub no_text : Bor (List ℕ)
no_text = record { ref_ptr = (0, 0); now = [] }

-- ---- texts

abbrev pub before : List (List ℕ) → Option (List (List ℕ)) → Option (List (List ℕ))
before xs o = option_map (λ ts. xs ++ ts) o

pub before-none : (o : Option (List (List ℕ))) → o ≡ before [] o
before-none None = refl
before-none (Some ts) = refl

before-then : (xs : List (List ℕ)) (t : List ℕ) (o : Option (List (List ℕ))) → before xs (option_and_then (λ ts. Some (t ∷ ts)) o) ≡ before (xs ++ t ∷ []) o
before-then xs t None = refl
before-then xs t (Some ts) = ap Some (sym (append_assoc xs (t ∷ []) ts))

pub text_read : (vs : List Value) (i : ℕ) (v : Value) (done : List (List ℕ)) (t : List ℕ) (all : Option (List (List ℕ))) → i < length vs → v ≡ get_or vs i v → Some t ≡ as_str (view v)
    → all ≡ before done (all_texts (items_view (drop i vs))) → all ≡ before (done ++ t ∷ []) (all_texts (items_view (drop (i + 1) vs)))
text_read vs i v done t all h is e so_far =
    let here = at_drop_more (λ ws. all_texts (items_view ws)) vs i v h ∙ ap (λ w. all_texts (items_view (w ∷ drop (i + 1) vs))) (sym is) in
    so_far ∙ ap (before done) (here ∙ ap (option_and_then (λ t. option_and_then (λ ts. Some (t ∷ ts)) (all_texts (items_view (drop (i + 1) vs))))) (sym e)) ∙ before-then done t _

pub text_refused : (vs : List Value) (i : ℕ) (v : Value) (done : List (List ℕ)) (all : Option (List (List ℕ))) → i < length vs → v ≡ get_or vs i v → None ≡ as_str (view v)
    → all ≡ before done (all_texts (items_view (drop i vs))) → None ≡ all
text_refused vs i v done all h is e so_far =
    let here = at_drop_more (λ ws. all_texts (items_view ws)) vs i v h ∙ ap (λ w. all_texts (items_view (w ∷ drop (i + 1) vs))) (sym is) in
    sym (so_far ∙ ap (before done) (here ∙ ap (option_and_then (λ t. option_and_then (λ ts. Some (t ∷ ts)) (all_texts (items_view (drop (i + 1) vs))))) (sym e)))

pub texts_done : (vs : List Value) (i : ℕ) (done : List (List ℕ)) (all : Option (List (List ℕ))) → length vs ≤ i → all ≡ before done (all_texts (items_view (drop i vs))) → Some done ≡ all
texts_done vs i done all h so_far = sym (so_far ∙ at_drop_all (λ ws. before done (all_texts (items_view ws))) vs i h ∙ ap Some (append-nil done))
