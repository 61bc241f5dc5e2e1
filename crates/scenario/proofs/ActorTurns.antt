-- The turns of the loops over the actors.
use Rattle.std.proofs.Common.{◌≡◌, ℕ, ◌+◌, ◌<◌, ◌≤◌, List, [], ◌∷◌, ◌++◌, length, drop, get_or, Result, Ok, Err, refl, sym, ap, ◌∙◌, append-nil}
use Rattle.std.proofs.lemmas.List.{at_drop_more, at_drop_all}
use Rattle.serde_json.specs.View.{view, items_view}
use Rattle.serde_json.specs.declared.value.Value.{Value}
use Rattle.sim_model.specs.declared.setup.Start.{Start}
use Rattle.scenario.specs.Actors.{actor_of, check_of, names_of, starts_of}
use Rattle.scenario.specs.Answers.{◌>>=◌, Gives}
use Rattle.scenario.specs.declared.any_actor.AnyActor.{AnyActor}
use Rattle.scenario.specs.declared.refusal.Refusal.{Refusal}
use Rattle.scenario.specs.declared.refusal.ScenarioFault.{ScenarioFault}
use Rattle.scenario.specs.declared.refusal.ScenarioFault.TheVariants.{Memory, Refused}
use Rattle.scenario.proofs.Turns.{after, after-and_then, and_then}

-- ---- the checks

names_step : (names : List (List ℕ)) (id : ℕ) (vs : List Value) (i : ℕ) (v : Value) → i < length vs → v ≡ get_or vs i v
    → names_of names id (items_view (drop i vs)) ≡ (check_of names id (view v) >>= (λ name. and_then name (names_of (names ++ name ∷ []) (id + 1) (items_view (drop (i + 1) vs)))))
names_step names id vs i v h is =
    at_drop_more (λ ws. names_of names id (items_view ws)) vs i v h ∙ ap (λ w. names_of names id (items_view (w ∷ drop (i + 1) vs))) (sym is)

pub name_read : (names : List (List ℕ)) (id : ℕ) (vs : List Value) (i : ℕ) (v : Value) (done : List (List ℕ)) (name : List ℕ) (all : Result (List (List ℕ)) Refusal)
    → i < length vs → v ≡ get_or vs i v → check_of names id (view v) ≡ Ok name
    → all ≡ after done (names_of names id (items_view (drop i vs)))
    → all ≡ after (done ++ name ∷ []) (names_of (names ++ name ∷ []) (id + 1) (items_view (drop (i + 1) vs)))
name_read names id vs i v done name all h is e so_far =
    let rest : List ℕ → Result (List (List ℕ)) Refusal = λ name. and_then name (names_of (names ++ name ∷ []) (id + 1) (items_view (drop (i + 1) vs))) in
    so_far ∙ ap (after done) (names_step names id vs i v h is ∙ ap (λ r. r >>= rest) e) ∙ after-and_then done name _

pub name_refused : (names : List (List ℕ)) (id : ℕ) (vs : List Value) (i : ℕ) (v : Value) (done : List (List ℕ)) (fault : ScenarioFault) (all : Result (List (List ℕ)) Refusal)
    → i < length vs → v ≡ get_or vs i v → Gives {A = List ℕ} (Err fault) (check_of names id (view v))
    → all ≡ after done (names_of names id (items_view (drop i vs))) → Gives {A = List (List ℕ)} (Err fault) all
name_refused names id vs i v done Memory all h is e so_far = tt
name_refused names id vs i v done (Refused refusal) all h is e so_far =
    let rest : List ℕ → Result (List (List ℕ)) Refusal = λ name. and_then name (names_of (names ++ name ∷ []) (id + 1) (items_view (drop (i + 1) vs))) in
    so_far ∙ ap (after done) (names_step names id vs i v h is ∙ ap (λ r. r >>= rest) e)

pub names_read : (names : List (List ℕ)) (id : ℕ) (vs : List Value) (i : ℕ) (done : List (List ℕ)) (all : Result (List (List ℕ)) Refusal)
    → length vs ≤ i → all ≡ after done (names_of names id (items_view (drop i vs))) → all ≡ Ok done
names_read names id vs i done all h so_far = so_far ∙ at_drop_all (λ ws. after done (names_of names id (items_view ws))) vs i h ∙ ap Ok (append-nil done)

-- ---- the finished actors

starts_step : (names own : List (List ℕ)) (id : ℕ) (vs : List Value) (i : ℕ) (v : Value) → i < length vs → i < length own → v ≡ get_or vs i v
    → starts_of names id (drop i own) (items_view (drop i vs))
    ≡ (actor_of names id (view v) >>= (λ state. and_then (record { name = get_or own i []; state = state }) (starts_of names (id + 1) (drop (i + 1) own) (items_view (drop (i + 1) vs)))))
starts_step names own id vs i v h there is =
    at_drop_more (λ ns. starts_of names id ns (items_view (drop i vs))) own i [] there
    ∙ at_drop_more (λ ws. starts_of names id (get_or own i [] ∷ drop (i + 1) own) (items_view ws)) vs i v h
    ∙ ap (λ w. starts_of names id (get_or own i [] ∷ drop (i + 1) own) (items_view (w ∷ drop (i + 1) vs))) (sym is)

pub start_read : (names own : List (List ℕ)) (id : ℕ) (vs : List Value) (i : ℕ) (v : Value) (done : List (Start AnyActor)) (state : AnyActor) (all : Result (List (Start AnyActor)) Refusal)
    → i < length vs → i < length own → v ≡ get_or vs i v → actor_of names id (view v) ≡ Ok state
    → all ≡ after done (starts_of names id (drop i own) (items_view (drop i vs)))
    → all ≡ after (done ++ record { name = get_or own i []; state = state } ∷ []) (starts_of names (id + 1) (drop (i + 1) own) (items_view (drop (i + 1) vs)))
start_read names own id vs i v done state all h there is e so_far =
    let rest : AnyActor → Result (List (Start AnyActor)) Refusal = λ state. and_then (record { name = get_or own i []; state = state }) (starts_of names (id + 1) (drop (i + 1) own) (items_view (drop (i + 1) vs))) in
    so_far ∙ ap (after done) (starts_step names own id vs i v h there is ∙ ap (λ r. r >>= rest) e) ∙ after-and_then done _ _

pub start_refused : (names own : List (List ℕ)) (id : ℕ) (vs : List Value) (i : ℕ) (v : Value) (done : List (Start AnyActor)) (fault : ScenarioFault) (all : Result (List (Start AnyActor)) Refusal)
    → i < length vs → i < length own → v ≡ get_or vs i v → Gives {A = AnyActor} (Err fault) (actor_of names id (view v))
    → all ≡ after done (starts_of names id (drop i own) (items_view (drop i vs))) → Gives {A = List (Start AnyActor)} (Err fault) all
start_refused names own id vs i v done Memory all h there is e so_far = tt
start_refused names own id vs i v done (Refused refusal) all h there is e so_far =
    let rest : AnyActor → Result (List (Start AnyActor)) Refusal = λ state. and_then (record { name = get_or own i []; state = state }) (starts_of names (id + 1) (drop (i + 1) own) (items_view (drop (i + 1) vs))) in
    so_far ∙ ap (after done) (starts_step names own id vs i v h there is ∙ ap (λ r. r >>= rest) e)

no_more : (names own : List (List ℕ)) (id : ℕ) → starts_of names id own (items_view []) ≡ Ok []
no_more names [] id = refl
no_more names (n ∷ own) id = refl

pub starts_read : (names own : List (List ℕ)) (id : ℕ) (vs : List Value) (i : ℕ) (done : List (Start AnyActor)) (all : Result (List (Start AnyActor)) Refusal)
    → length vs ≤ i → all ≡ after done (starts_of names id (drop i own) (items_view (drop i vs))) → all ≡ Ok done
starts_read names own id vs i done all h so_far =
    so_far ∙ at_drop_all (λ ws. after done (starts_of names id (drop i own) (items_view ws))) vs i h ∙ ap (after done) (no_more names (drop i own) id) ∙ ap Ok (append-nil done)
