-- The turns of the loops that print.
use Rattle.std.proofs.Common.{◌≡◌, ℕ, zero, suc, ◌+◌, ◌<◌, List, [], ◌∷◌, ◌++◌, length, drop, take, get_or, map, refl, ap, ◌∙◌, sym, arith}
use Rattle.std.proofs.lemmas.List.{at_drop_more, take_more, map-append}
use Rattle.serde_json.specs.Data.{Members, item, no_items, put, string}
use Rattle.serde_json.specs.View.{items_view, view}
use Rattle.serde_json.specs.declared.value.Value.{Value}
use Rattle.sim_base.specs.declared.ids.ActorId.{ActorId}
use Rattle.scenario.specs.Build.{Fits}
use Rattle.scenario.specs.Print.{content_tree, name_at, text_trees, with_contents}
use Rattle.scenario.specs.Reading.{number_in}
use Rattle.scenario.specs.Table.{Row, row_of}
use Rattle.scenario.specs.Valid.{AreActors, AreWithin, IsActor, IsWithin}
use Rattle.scenario.specs.declared.contents.Content.{Content}
use Rattle.scenario.specs.declared.table.Field.{Field}
use Rattle.scenario.proofs.FieldTurns.{no_field}
use Rattle.scenario.proofs.Printable.{items_view-append, join, text_trees-append}

pub actor_at : (count : ℕ) (r : List ActorId) (i : ℕ) (d : ActorId) → i < length r → AreActors count r → IsActor count (get_or r i d)
actor_at count [] i d h all = absurd (omega arith)
actor_at count (a ∷ r) zero d h all = all.0
actor_at count (a ∷ r) (suc i) d h all = actor_at count r i d (omega arith) all.1

pub within_at : (count : ℕ) (cs : List Content) (i : ℕ) (d : Content) → i < length cs → AreWithin count cs → IsWithin count (get_or cs i d)
within_at count [] i d h all = absurd (omega arith)
within_at count (a ∷ r) zero d h all = all.0
within_at count (a ∷ r) (suc i) d h all = within_at count r i d (omega arith) all.1

-- contents that fit are as many as the fields
pub as_many : (before : ℕ) (rs : List Row) (cs : List Content) → Fits before rs cs → length rs ≡ length cs
as_many before [] [] h = refl
as_many before (r ∷ rs) (c ∷ cs) h = ap suc (as_many (number_in c) rs cs h.1)
as_many before rs cs h = absurd h

names_more : (names : List (List ℕ)) (r : List ActorId) (i : ℕ) (d : ActorId) → i < length r
    → text_trees (map (name_at names) (take (i + 1) r)) ≡ join (text_trees (map (name_at names) (take i r))) (item (string (name_at names (get_or r i d))) no_items)
names_more names r i d h =
    ap (λ ids. text_trees (map (name_at names) ids)) (take_more r i d h) ∙ ap text_trees (map-append (name_at names) (take i r) (get_or r i d ∷ [])) ∙ text_trees-append (map (name_at names) (take i r)) _

pub one_more_id : (names : List (List ℕ)) (r : List ActorId) (i : ℕ) (d : ActorId) (vs : List Value) (v : Value) → i < length r → items_view vs ≡ text_trees (map (name_at names) (take i r))
    → view v ≡ string (name_at names (get_or r i d)) → items_view (vs ++ v ∷ []) ≡ text_trees (map (name_at names) (take (i + 1) r))
one_more_id names r i d vs v h so_far e =
    items_view-append vs (v ∷ []) ∙ ap (λ t. join (items_view vs) (item t no_items)) e ∙ ap (λ ds. join ds (item (string (name_at names (get_or r i d))) no_items)) so_far
    ∙ sym (names_more names r i d h)

pub put_turn : (names : List (List ℕ)) (fs : List Field) (cs : List Content) (i : ℕ) (c : Content) (ms : Members) → i < length fs → i < length cs → c ≡ get_or cs i c
    → with_contents names (map row_of (drop i fs)) (drop i cs) ms ≡ with_contents names (map row_of (drop (i + 1) fs)) (drop (i + 1) cs) (put (get_or fs i no_field).0.now (content_tree names c) ms)
put_turn names fs cs i c ms hf hc is =
    at_drop_more (λ gs. with_contents names (map row_of gs) (drop i cs) ms) fs i no_field hf
    ∙ at_drop_more (λ ds. with_contents names (map row_of (get_or fs i no_field ∷ drop (i + 1) fs)) ds ms) cs i c hc
    ∙ ap (λ x. with_contents names (map row_of (get_or fs i no_field ∷ drop (i + 1) fs)) (x ∷ drop (i + 1) cs) ms) (sym is)
