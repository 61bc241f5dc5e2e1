-- The turns of the loop over the fields of a table.
use Rattle.std.proofs.Common.{◌≡◌, ℕ, ◌+◌, ◌<◌, List, [], ◌∷◌, ◌++◌, length, drop, get_or, map, Result, Ok, Err, refl, sym, ap, ◌∙◌}
use Rattle.serde_json.specs.Data.{Data}
use Rattle.scenario.specs.Answers.{◌>>=◌, Gives}
use Rattle.scenario.specs.Reading.{content_at, contents_at, number_in}
use Rattle.scenario.specs.Table.{row_of}
use Rattle.scenario.specs.declared.contents.Content.{Content}
use Rattle.scenario.specs.declared.reading.Pass.{Pass}
use Rattle.scenario.specs.declared.refusal.Refusal.{Refusal}
use Rattle.scenario.specs.declared.refusal.ScenarioFault.{ScenarioFault}
use Rattle.scenario.specs.declared.table.Field.{Field}
use Rattle.scenario.specs.declared.table.Least.TheVariants as least
use Rattle.scenario.specs.declared.table.Sort.TheVariants as sort
use Rattle.scenario.proofs.Turns.{after, no_text, refused_by, turn_at}

-- what a field is read as past the end
abbrev pub no_field : Field
no_field = record { 0 = no_text; 1 = sort.Number (least.Number 0) 0 }

abbrev pub rest_of : Pass → List (List ℕ) → ℕ → Data → ℕ → List Field → Result (List Content) Refusal
rest_of q names id d before fs = contents_at q names id d before (map row_of fs)

pub field_read : (q : Pass) (names : List (List ℕ)) (id : ℕ) (d : Data) (before : ℕ) (fs : List Field) (i : ℕ) (done : List Content) (c : Content) (next : ℕ) (all : Result (List Content) Refusal)
    → i < length fs → content_at q names id d before (get_or fs i no_field).0.now (get_or fs i no_field).1 ≡ Ok c → next ≡ number_in c
    → all ≡ after done (rest_of q names id d before (drop i fs)) → all ≡ after (done ++ c ∷ []) (rest_of q names id d next (drop (i + 1) fs))
field_read q names id d before fs i done c next all h e is so_far =
    turn_at (rest_of q names id d before) fs i no_field done c (rest_of q names id d (number_in c) (drop (i + 1) fs)) all h
    (ap (λ r. r >>= (λ c. rest_of q names id d (number_in c) (drop (i + 1) fs) >>= (λ more. Ok (c ∷ more)))) e) so_far
    ∙ ap (λ n. after (done ++ c ∷ []) (rest_of q names id d n (drop (i + 1) fs))) (sym is)

pub field_refused : (q : Pass) (names : List (List ℕ)) (id : ℕ) (d : Data) (before : ℕ) (fs : List Field) (i : ℕ) (done : List Content) (fault : ScenarioFault) (all : Result (List Content) Refusal)
    → i < length fs → Gives {A = Content} (Err fault) (content_at q names id d before (get_or fs i no_field).0.now (get_or fs i no_field).1)
    → all ≡ after done (rest_of q names id d before (drop i fs)) → Gives {A = List Content} (Err fault) all
field_refused q names id d before fs i done fault all h e so_far =
    let field = get_or fs i no_field in
    refused_by (rest_of q names id d before) (content_at q names id d before field.0.now field.1)
    (λ c. rest_of q names id d (number_in c) (drop (i + 1) fs) >>= (λ more. Ok (c ∷ more))) fs i no_field done fault all h refl e so_far
