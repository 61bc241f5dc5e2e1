-- What is printed is read again.
use Rattle.std.proofs.Common.{◌≡◌, ◌⊎◌, inl, inr, ℕ, suc, ◌+◌, ◌-◌, ◌<◌, ◌≤◌, ◌==◌, pos, List, [], ◌∷◌, ◌++◌, map, length, get_or, Ok, Some, None, Bool}
use Rattle.std.proofs.Common.{true, false, cond, nat_lt, bytes_eq, codes, ◌||◌, if◌then◌else◌, Option, refl, sym, ap, ◌∙◌, arith, append_assoc, append-nil, below_more, subst, Ordering, Less, Equal, Greater, nat_cmp, true≢false}
use Rattle.std.proofs.lemmas.Bool.{le-leb}
use Rattle.std.proofs.lemmas.Bool.Decides.{nat_tests}
use Rattle.std.proofs.lemmas.List.{length-append, get_or_append_left, get_or_at}
use Rattle.std.specs.Cmp.Lexicographic.{slice_cmp}
use Rattle.std.specs.List.{All}
use Rattle.std.specs.Ordering.{match_ordering}
use Rattle.serde_json.specs.Data.{Data, number, unsigned, string, array, object, Items, Members, no_members, member, put}
use Rattle.serde_json.specs.Events.{items_len}
use Rattle.serde_json.specs.Find.{get, get_member}
use Rattle.serde_json.proofs.Views.{get_member-put, get_member-put_other}
use Rattle.sim_base.specs.Names.{is_name}
use Rattle.sim_base.specs.declared.ids.ActorId.{ActorId}
use Rattle.sim_model.specs.Setups.{Ascend}
use Rattle.sim_model.specs.declared.setup.Start.{Start}
use Rattle.sim_model.proofs.Ascending.{from_increasing, pairs_head, pairs_tail}
use Rattle.scenario.specs.Actors.{actor_of, check_of, kind_of, name_of, names_of, starts_of}
use Rattle.scenario.specs.Answers.{ok_map, or_else, place_of}
use Rattle.scenario.specs.Build.{Fits, FitsOne, build, kind_of_actor, show}
use Rattle.scenario.specs.Fields.{all_texts, in_range, is_field, least_unknown, lesser, no_unknown, number_at, number_or, text_at, texts_at, texts_or}
use Rattle.scenario.specs.Format.{items_in, limits_of, most_actors, scenario_in}
use Rattle.scenario.specs.Names.{place_in}
use Rattle.scenario.specs.Print.{actor_tree, actor_trees, content_tree, kind_members, kind_tree, limits_in, name_at, text_trees, tree_for, urgent_member, with_contents}
use Rattle.scenario.specs.Reading.{content_at, contents_at, least_of, look, look_all, number_in}
use Rattle.scenario.specs.ScenarioParts.{ScenarioParts}
use Rattle.scenario.specs.Selection.{results_of}
use Rattle.scenario.specs.Table.{Row, fields_of, is_among, kind_name, kind_named, most}
use Rattle.scenario.specs.Urgent.{ascending, urgent_texts, with_actor}
use Rattle.scenario.specs.Valid.{AreActors, AreNamed, AreOpening, AreWithin, IsActor, IsOpening, IsScenario, IsWithin, names_in}
use Rattle.scenario.specs.declared.any_actor.AnyActor.{AnyActor}
use Rattle.scenario.specs.declared.contents.Content.{Content}
use Rattle.scenario.specs.declared.contents.Content.TheVariants.{Number, Actor, Route}
use Rattle.scenario.specs.declared.fields.Owner.{Owner}
use Rattle.scenario.specs.declared.fields.Owner.TheVariants as owner
use Rattle.scenario.specs.declared.reading.Pass.TheVariants as pass
use Rattle.scenario.specs.declared.refusal.Place.{Place}
use Rattle.scenario.specs.declared.refusal.Refusal.TheVariants.{UnknownActor}
use Rattle.scenario.specs.declared.table.Kind.{Kind}
use Rattle.scenario.specs.declared.table.Kind.TheVariants as kind
use Rattle.scenario.specs.declared.table.Sort.{Sort}
use Rattle.scenario.specs.declared.table.Sort.TheVariants as sort
use Rattle.scenario.proofs.Placing.{bytes_eq-same, bytes_eq-itself, place_in-append}
use Rattle.scenario.proofs.ReadFits.{each_passes}

-- ---- the law of each kind: contents that fit are shown again

pub shown : (k : Kind) (cs : List Content) → Fits 0 (fields_of k) cs → (kind_of_actor (build k cs) ≡ Some k) × (show (build k cs) ≡ cs)
shown kind.Clock (Number period ∷ Number count ∷ []) h = (refl, refl)
shown kind.Ball (Actor peer ∷ Number at ∷ Number hits ∷ []) h = (refl, refl)
shown kind.Fuse (Number at ∷ Number code ∷ []) h = (refl, refl)
shown kind.Machine (Number stock ∷ Number price ∷ Number close_at ∷ []) h = (refl, refl)
shown kind.Customer (Actor machine ∷ Number period ∷ Number money ∷ Number offer ∷ []) h = (refl, refl)
shown kind.RandomCustomer (Actor machine ∷ Number low ∷ Number high ∷ Number money ∷ Number offer ∷ []) h = (refl, refl)
shown kind.Refill (Actor machine ∷ Number cans ∷ []) h = (refl, refl)
shown kind.Depot (Actor machine ∷ Number at ∷ Number trucks ∷ Number cans ∷ []) h = (refl, refl)
shown kind.Road (Number long ∷ Number room ∷ []) h = (refl, refl)
shown kind.Origin (Route route ∷ Number period ∷ Number count ∷ []) h = (refl, refl)
shown k cs h = absurd (grind arith)

-- ---- what is asked of the table, by computing

-- no field comes twice
abbrev pub AreApart : List Row → Type 0
AreApart [] = Unit {0}
AreApart (r ∷ rs) = (is_among rs r.name ≡ false) × AreApart rs

apart : (k : Kind) → AreApart (fields_of k)
apart kind.Clock = (refl, (refl, tt))
apart kind.Ball = (refl, (refl, (refl, tt)))
apart kind.Fuse = (refl, (refl, tt))
apart kind.Machine = (refl, (refl, (refl, tt)))
apart kind.Customer = (refl, (refl, (refl, (refl, tt))))
apart kind.RandomCustomer = (refl, (refl, (refl, (refl, (refl, tt)))))
apart kind.Refill = (refl, (refl, tt))
apart kind.Depot = (refl, (refl, (refl, (refl, tt))))
apart kind.Road = (refl, (refl, tt))
apart kind.Origin = (refl, (refl, (refl, tt)))

-- neither kind nor name is a field of the table
record IsBeside (k : Kind) : Type 0 where
  named : kind_named (kind_name k) ≡ Some k
  kind : is_among (fields_of k) (codes "kind") ≡ false
  name : is_among (fields_of k) (codes "name") ≡ false

beside : (k : Kind) → IsBeside k
beside kind.Clock = record { named = refl; kind = refl; name = refl }
beside kind.Ball = record { named = refl; kind = refl; name = refl }
beside kind.Fuse = record { named = refl; kind = refl; name = refl }
beside kind.Machine = record { named = refl; kind = refl; name = refl }
beside kind.Customer = record { named = refl; kind = refl; name = refl }
beside kind.RandomCustomer = record { named = refl; kind = refl; name = refl }
beside kind.Refill = record { named = refl; kind = refl; name = refl }
beside kind.Depot = record { named = refl; kind = refl; name = refl }
beside kind.Road = record { named = refl; kind = refl; name = refl }
beside kind.Origin = record { named = refl; kind = refl; name = refl }

-- ---- the tree holds what was put

either : (a b : Bool) → (a || b) ≡ false → (a ≡ false) × (b ≡ false)
either false b h = (refl, h)
either true b h = absurd (cc)

other : (k l : List ℕ) → bytes_eq k l ≡ false → k ≡ l → ⊥
other k l apart same = true≢false (sym (bytes_eq-itself k l same) ∙ apart)

-- a field that isn't among those put stays
kept : (names : List (List ℕ)) (k : List ℕ) (rs : List Row) (cs : List Content) (ms : Members) → is_among rs k ≡ false → get_member k (with_contents names rs cs ms) ≡ get_member k ms
kept names k [] cs ms h = refl
kept names k (r ∷ rs) [] ms h = refl
kept names k (r ∷ rs) (c ∷ cs) ms h =
    let apart = either (bytes_eq k r.name) (is_among rs k) h in
    kept names k rs cs (put r.name (content_tree names c) ms) apart.1 ∙ get_member-put_other k r.name (content_tree names c) ms (other k r.name apart.0)

-- each field's content stands in a tree
abbrev pub Holds : List (List ℕ) → Data → List Row → List Content → Type 0
Holds names d [] cs = Unit {0}
Holds names d (r ∷ rs) [] = Unit {0}
Holds names d (r ∷ rs) (c ∷ cs) = (get r.name d ≡ Some (content_tree names c)) × Holds names d rs cs

holds : (names : List (List ℕ)) (rs : List Row) (cs : List Content) (ms : Members) → AreApart rs → Holds names (object (with_contents names rs cs ms)) rs cs
holds names [] cs ms apart = tt
holds names (r ∷ rs) [] ms apart = tt
holds names (r ∷ rs) (c ∷ cs) ms apart =
    let more = put r.name (content_tree names c) ms in
    (kept names r.name rs cs more apart.0 ∙ get_member-put r.name (content_tree names c) ms, holds names rs cs more apart.1)

-- ---- one field

within : (p : Place) (low high n : ℕ) → low ≤ n → n ≤ high → in_range p low high (pos n) ≡ Ok n
unfolding in_range
within p low high n from to = rw (le-leb low n from, le-leb n high to)

number_read : (id : ℕ) (field : List ℕ) (low high n : ℕ) (d : Data) → low ≤ n → n ≤ high → get field d ≡ Some (number (unsigned n)) → number_at id field low high d ≡ Ok n
unfolding number_at
number_read id field low high n d from to there = rw there (within (place_of id field) low high n from to)

text_read : (id : ℕ) (field text : List ℕ) (d : Data) → get field d ≡ Some (string text) → text_at id field d ≡ Ok text
unfolding text_at
text_read id field text d there = rw there refl

all_texts_read : (ts : List (List ℕ)) → all_texts (text_trees ts) ≡ Some ts
all_texts_read [] = refl
all_texts_read (t ∷ ts) = rw (all_texts_read ts)

texts_read : (id : ℕ) (field : List ℕ) (few many : ℕ) (ts : List (List ℕ)) (d : Data) → few ≤ length ts → length ts ≤ many → get field d ≡ Some (array (text_trees ts)) → texts_at id field few many d ≡ Ok ts
unfolding texts_at
texts_read id field few many ts d from to there = rw (there, all_texts_read ts, le-leb few (length ts) from, le-leb (length ts) many to) refl

-- each of the names is found at its own place
abbrev pub IsPlaced : List (List ℕ) → Type 0
IsPlaced names = (k : ℕ) → k < length names → place_in names (get_or names k []) ≡ Some (k + 1)

found : (names : List (List ℕ)) (p : Place) (a : ActorId) → IsPlaced names → IsActor (length names) a → look pass.Finish names p (name_at names a) ≡ Ok a
found names p a placed h =
    let low : a.0 - 1 < length names = omega (arith, h.first, h.last) in
    let back : a.0 - 1 + 1 ≡ a.0 = omega (arith, h.first) in
    ap (λ o. ok_map (λ place. record { 0 = place }) (or_else (UnknownActor p) o)) (placed (a.0 - 1) low ∙ ap Some back)

all_found : (names : List (List ℕ)) (p : Place) (r : List ActorId) → IsPlaced names → AreActors (length names) r → look_all pass.Finish names p (map (name_at names) r) ≡ Ok r
all_found names p [] placed h = refl
all_found names p (a ∷ r) placed h = rw (found names p a placed h.0, all_found names p r placed h.1) refl

count_ids : (names : List (List ℕ)) (r : List ActorId) → length (map (name_at names) r) ≡ length r
count_ids names [] = refl
count_ids names (a ∷ r) = ap suc (count_ids names r)

one_read : (names : List (List ℕ)) (id : ℕ) (d : Data) (before : ℕ) (field : List ℕ) (s : Sort) (c : Content) → IsPlaced names → FitsOne before s c → IsWithin (length names) c → get field d ≡ Some (content_tree names c)
    → content_at pass.Finish names id d before field s ≡ Ok c
unfolding content_at
one_read names id d before field (sort.Number low high) (Number n) placed fits there at = ap (ok_map Number) (number_read id field (least_of before low) high n d fits.0 fits.1 at)
one_read names id d before field sort.Actor (Actor a) placed fits there at = rw (text_read id field (name_at names a) d at, found names (place_of id field) a placed there) refl
one_read names id d before field sort.Route (Route r) placed fits there at =
    let count = count_ids names r in
    rw (texts_read id field 1 32 (map (name_at names) r) d (omega (arith, count, fits.0)) (omega (arith, count, fits.1)) at, all_found names (place_of id field) r placed there) refl
one_read names id d before field s c placed fits there at = absurd fits

-- ---- all fields of a table

all_read : (names : List (List ℕ)) (id : ℕ) (d : Data) (before : ℕ) (rs : List Row) (cs : List Content) → IsPlaced names → Fits before rs cs → AreWithin (length names) cs → Holds names d rs cs
    → contents_at pass.Finish names id d before rs ≡ Ok cs
all_read names id d before [] [] placed fits there at = refl
all_read names id d before (r ∷ rs) (c ∷ cs) placed fits there at =
    rw (one_read names id d before r.name r.sort c placed fits.0 there.0 at.0, all_read names id d (number_in c) rs cs placed fits.1 there.1 at.1) refl
all_read names id d before rs cs placed fits there at = absurd fits

-- ---- no field is unknown

both_known : (b : Bool) (key : List ℕ) (o : Option (List ℕ)) → (if b then o else Some (lesser key o)) ≡ None → (b ≡ true) × (o ≡ None)
both_known true key o h = (refl, h)
both_known false key o h = absurd (cc)

put_known : (o : Owner) (key : List ℕ) (d : Data) (ms : Members) → is_field o key ≡ true → least_unknown o ms ≡ None → least_unknown o (put key d ms) ≡ None
put_known o key d no_members known h = rw known refl
put_known o key d (member l e ms) known h = at (slice_cmp nat_cmp key l) (both_known (is_field o l) l (least_unknown o ms) h) (put_known o key d ms known)
  where
    at : (order : Ordering) → (is_field o l ≡ true) × (least_unknown o ms ≡ None) → (least_unknown o ms ≡ None → least_unknown o (put key d ms) ≡ None)
        → least_unknown o (match_ordering order (member key d (member l e ms)) (member l d ms) (member l e (put key d ms))) ≡ None
    at Less p more = rw (known, p.0) p.1
    at Equal p more = rw p.0 p.1
    at Greater p more = rw p.0 (more p.1)

-- each of these fields is one of the owner's
abbrev AreFields : Owner → List Row → Type 0
AreFields o [] = Unit {0}
AreFields o (r ∷ rs) = (is_field o r.name ≡ true) × AreFields o rs

put_all_known : (names : List (List ℕ)) (o : Owner) (rs : List Row) (cs : List Content) (ms : Members) → AreFields o rs → least_unknown o ms ≡ None → least_unknown o (with_contents names rs cs ms) ≡ None
put_all_known names o [] cs ms fields h = h
put_all_known names o (r ∷ rs) [] ms fields h = h
put_all_known names o (r ∷ rs) (c ∷ cs) ms fields h = put_all_known names o rs cs (put r.name (content_tree names c) ms) fields.1 (put_known o r.name (content_tree names c) ms fields.0 h)

are_fields : (k : Kind) → AreFields (owner.Actor k) (fields_of k)
unfolding is_field
are_fields kind.Clock = (refl, (refl, tt))
are_fields kind.Ball = (refl, (refl, (refl, tt)))
are_fields kind.Fuse = (refl, (refl, tt))
are_fields kind.Machine = (refl, (refl, (refl, tt)))
are_fields kind.Customer = (refl, (refl, (refl, (refl, tt))))
are_fields kind.RandomCustomer = (refl, (refl, (refl, (refl, (refl, tt)))))
are_fields kind.Refill = (refl, (refl, tt))
are_fields kind.Depot = (refl, (refl, (refl, (refl, tt))))
are_fields kind.Road = (refl, (refl, tt))
are_fields kind.Origin = (refl, (refl, (refl, tt)))

members_known : (k : Kind) (name : List ℕ) → least_unknown (owner.Actor k) (kind_members (kind_name k) name) ≡ None
unfolding is_field
members_known k name = refl

-- ---- the whole actor

abbrev tree_at : List (List ℕ) → List ℕ → Kind → List Content → Data
tree_at names name k cs = object (with_contents names (fields_of k) cs (kind_members (kind_name k) name))

kind_read : (names : List (List ℕ)) (id : ℕ) (name : List ℕ) (k : Kind) (cs : List Content) → kind_of id (tree_at names name k cs) ≡ Ok k
unfolding kind_of
kind_read names id name k cs =
    rw (text_read id (codes "kind") (kind_name k) (tree_at names name k cs) (kept names (codes "kind") (fields_of k) cs (kind_members (kind_name k) name) (beside k).kind), (beside k).named) refl

name_read : (earlier names : List (List ℕ)) (id : ℕ) (name : List ℕ) (k : Kind) (cs : List Content) → is_name name ≡ true → place_in earlier name ≡ None → name_of earlier id (tree_at names name k cs) ≡ Ok name
unfolding name_of
name_read earlier names id name k cs good new =
    rw (text_read id (codes "name") name (tree_at names name k cs) (kept names (codes "name") (fields_of k) cs (kind_members (kind_name k) name) (beside k).name), good, new) refl

known_read : (names : List (List ℕ)) (id : ℕ) (name : List ℕ) (k : Kind) (cs : List Content) → no_unknown (owner.Actor k) id (tree_at names name k cs) ≡ Ok tt
unfolding no_unknown
known_read names id name k cs = rw (put_all_known names (owner.Actor k) (fields_of k) cs (kind_members (kind_name k) name) (are_fields k) (members_known k name)) refl

contents_read : (names : List (List ℕ)) (id : ℕ) (name : List ℕ) (k : Kind) (cs : List Content) → IsPlaced names → Fits 0 (fields_of k) cs → AreWithin (length names) cs
    → contents_at pass.Finish names id (tree_at names name k cs) 0 (fields_of k) ≡ Ok cs
contents_read names id name k cs placed fits there =
    all_read names id (tree_at names name k cs) 0 (fields_of k) cs placed fits there (holds names (fields_of k) cs (kind_members (kind_name k) name) (apart k))

made_read : (names : List (List ℕ)) (id : ℕ) (name : List ℕ) (k : Kind) (cs : List Content) → IsPlaced names → Fits 0 (fields_of k) cs → AreWithin (length names) cs
    → actor_of names id (tree_at names name k cs) ≡ Ok (build k cs)
unfolding actor_of
made_read names id name k cs placed fits there = rw (kind_read names id name k cs, contents_read names id name k cs placed fits there) refl

made_passes : (earlier names : List (List ℕ)) (id : ℕ) (name : List ℕ) (k : Kind) (cs : List Content) → IsPlaced names → Fits 0 (fields_of k) cs → AreWithin (length names) cs
    → is_name name ≡ true → place_in earlier name ≡ None → check_of earlier id (tree_at names name k cs) ≡ Ok name
unfolding check_of
made_passes earlier names id name k cs placed fits there good new =
    let checked = each_passes earlier names id (tree_at names name k cs) 0 (fields_of k) cs (contents_read names id name k cs placed fits there) in
    rw (name_read earlier names id name k cs good new, kind_read names id name k cs, known_read names id name k cs, checked.1) refl

-- the tree of an actor at its start is that of its kind and contents
opening_tree : (names : List (List ℕ)) (s : Start AnyActor) (count : ℕ) (h : IsOpening count s.state) → actor_tree names s ≡ tree_at names s.name h.kind h.contents
opening_tree names s count h =
    let again = shown h.kind h.contents h.fits in
    ap (λ a. kind_tree names s.name (kind_of_actor a) (show a)) (sym h.built)
    ∙ ap (λ k. kind_tree names s.name k (show (build h.kind h.contents))) again.0
    ∙ ap (kind_tree names s.name (Some h.kind)) again.1

actor_read : (names : List (List ℕ)) (id : ℕ) (s : Start AnyActor) → IsPlaced names → IsOpening (length names) s.state → actor_of names id (actor_tree names s) ≡ Ok s.state
actor_read names id s placed h =
    ap (actor_of names id) (opening_tree names s (length names) h) ∙ made_read names id s.name h.kind h.contents placed h.fits h.within ∙ ap Ok h.built

actor_passes : (earlier names : List (List ℕ)) (id : ℕ) (s : Start AnyActor) → IsPlaced names → IsOpening (length names) s.state → is_name s.name ≡ true → place_in earlier s.name ≡ None
    → check_of earlier id (actor_tree names s) ≡ Ok s.name
actor_passes earlier names id s placed h good new =
    ap (check_of earlier id) (opening_tree names s (length names) h) ∙ made_passes earlier names id s.name h.kind h.contents placed h.fits h.within good new

-- ---- all actors

names_read : (earlier names : List (List ℕ)) (id : ℕ) (ss : List (Start AnyActor)) → IsPlaced names → AreNamed earlier (names_in ss) → AreOpening (length names) ss
    → names_of earlier id (actor_trees names ss) ≡ Ok (names_in ss)
names_read earlier names id [] placed named opening = refl
names_read earlier names id (s ∷ ss) placed named opening =
    rw (actor_passes earlier names id s placed opening.0 named.0 named.1, names_read (earlier ++ s.name ∷ []) names (id + 1) ss placed named.2 opening.1) refl

starts_read : (names : List (List ℕ)) (id : ℕ) (ss : List (Start AnyActor)) → IsPlaced names → AreOpening (length names) ss → starts_of names id (names_in ss) (actor_trees names ss) ≡ Ok ss
starts_read names id [] placed opening = refl
starts_read names id (s ∷ ss) placed opening = rw (actor_read names id s placed opening.0, starts_read names (id + 1) ss placed opening.1) refl

not_found : (ns : List (List ℕ)) (n q : List ℕ) (k : ℕ) → place_in ns n ≡ None → place_in ns q ≡ Some k → (b : Bool) → bytes_eq n q ≡ b → b ≡ false
not_found ns n q k none some false e = refl
not_found ns n q k none some true e = let same = ap (place_in ns) (bytes_eq-same n q e) in absurd (cc)

placed_more : (ns : List (List ℕ)) (n : List ℕ) → IsPlaced ns → place_in ns n ≡ None → IsPlaced (ns ++ n ∷ [])
placed_more ns n placed none k h =
    let found = λ (q : List ℕ). place_in-append ns n q (length ns + 1) none refl in
    let short : k < length ns + 1 = omega (arith, h, length-append ns (n ∷ [])) in
    below_more (λ k. place_in (ns ++ n ∷ []) (get_or (ns ++ n ∷ []) k []) ≡ Some (k + 1)) (length ns)
    (λ k h. let q = get_or ns k [] in
    ap (place_in (ns ++ n ∷ [])) (get_or_append_left ns (n ∷ []) [] k h) ∙ found q ∙ ap (λ b. cond b (Some (length ns + 1)) (place_in ns q)) (not_found ns n q (k + 1) none (placed k h) (bytes_eq n q) refl) ∙ placed k h)
    (ap (place_in (ns ++ n ∷ [])) (get_or_at ns n [] [] (length ns) refl) ∙ found n ∙ ap (λ b. cond b (Some (length ns + 1)) (place_in ns n)) (bytes_eq-itself n n refl))
    k short

placed_names : (earlier ns : List (List ℕ)) → AreNamed earlier ns → IsPlaced earlier → IsPlaced (earlier ++ ns)
placed_names earlier [] named placed = subst IsPlaced (sym (append-nil earlier)) placed
placed_names earlier (n ∷ ns) named placed = subst IsPlaced (append_assoc earlier (n ∷ []) ns) (placed_names (earlier ++ n ∷ []) ns named.2 (placed_more earlier n placed named.1))

count_names : (ss : List (Start AnyActor)) → length (names_in ss) ≡ length ss
count_names [] = refl
count_names (s ∷ ss) = ap suc (count_names ss)

count_trees : (names : List (List ℕ)) (ss : List (Start AnyActor)) → items_len (actor_trees names ss) ≡ length ss
count_trees names [] = refl
count_trees names (s ∷ ss) = ap suc (count_trees names ss)

-- ---- urgent senders

is_less : (m n : ℕ) → m < n → nat_lt m n ≡ true
is_less m n h = grind (arith, nat_tests)

in_front : (a : ActorId) (ids : List ActorId) → All (λ b. a.0 < b.0) ids → with_actor a ids ≡ a ∷ ids
in_front a [] above = refl
in_front a (b ∷ ids) above = rw (is_less a.0 b.0 (above 0 b (omega arith))) refl

same_ascending : (ids : List ActorId) → Ascend ids → ascending ids ≡ ids
same_ascending [] h = refl
same_ascending (a ∷ ids) h =
    ap (with_actor a) (same_ascending ids (pairs_tail (λ a b. a.0 < b.0) a ids h)) ∙ in_front a ids (pairs_head (λ a b. a.0 < b.0) a ids h)

pub actors_known : (count : ℕ) (ids : List ActorId) → All (λ id. (1 ≤ id.0) × (id.0 ≤ count)) ids → AreActors count ids
actors_known count [] h = tt
actors_known count (a ∷ ids) h =
    let first = h 0 a (omega arith) in
    (record { first = first.0; last = first.1 }, actors_known count ids (λ k d within. h (suc k) d (omega arith)))

none_read : (ts : List (List ℕ)) (d : Data) → ts ≡ [] → get (codes "urgent") d ≡ None → urgent_texts 1 d ≡ Ok ts
unfolding urgent_texts
none_read ts d none there = rw there (ap Ok (sym none))

some_read : (ts : List (List ℕ)) (d : Data) → length ts ≤ 64 → get (codes "urgent") d ≡ Some (array (text_trees ts)) → urgent_texts 2 d ≡ Ok ts
unfolding urgent_texts texts_or
some_read ts d few there = rw there (texts_read 0 (codes "urgent") 0 64 ts d (omega arith) few there)

urgent_read : (format : ℕ) (ts : List (List ℕ)) (d : Data) → (format ≡ 1) ⊎ (format ≡ 2) → (format ≡ 1 → ts ≡ []) → length ts ≤ 64
    → get (codes "urgent") d ≡ get_member (codes "urgent") (urgent_member format (text_trees ts)) → urgent_texts format d ≡ Ok ts
urgent_read format ts d (inl one) none few there =
    subst (λ f. get (codes "urgent") d ≡ get_member (codes "urgent") (urgent_member f (text_trees ts)) → urgent_texts f d ≡ Ok ts) (sym one) (none_read ts d (none one)) there
urgent_read format ts d (inr two) none few there =
    subst (λ f. get (codes "urgent") d ≡ get_member (codes "urgent") (urgent_member f (text_trees ts)) → urgent_texts f d ≡ Ok ts) (sym two) (some_read ts d few) there

-- ---- the whole

limits_read : (p : ScenarioParts) → IsScenario p → limits_of (tree_for p) ≡ Ok (limits_in p)
unfolding limits_of tree_for number_at number_or
limits_read p h =
    rw (
      within (place_of 0 (codes "format")) 1 2 p.format (from h.format) (to h.format),
      within (place_of 0 (codes "seed")) 0 18446744073709551615 p.setup.seed (omega arith) h.setup.seed,
      within (place_of 0 (codes "last_tick")) 0 most p.setup.last_tick (omega arith) h.setup.last_tick,
      within (place_of 0 (codes "diasca_limit")) 1 65535 p.setup.diasca_limit h.setup.some_diasca h.setup.diasca_limit,
      within (place_of 0 (codes "max_actors")) 1 (most_actors p.format) p.setup.max_actors h.setup.some_actor h.room,
    )
  where
    from : (p.format ≡ 1) ⊎ (p.format ≡ 2) → 1 ≤ p.format
    from (inl one) = omega arith
    from (inr two) = omega arith

    to : (p.format ≡ 1) ⊎ (p.format ≡ 2) → p.format ≤ 2
    to (inl one) = omega arith
    to (inr two) = omega arith

last_known : (first : Bool) (urgent : Items) → least_unknown owner.Whole (if first then no_members else member (codes "urgent") (array urgent) no_members) ≡ None
unfolding is_field
last_known true urgent = refl
last_known false urgent = refl

whole_known : (p : ScenarioParts) → no_unknown owner.Whole 0 (tree_for p) ≡ Ok tt
unfolding no_unknown tree_for is_field
whole_known p = rw (last_known (p.format == 1) (text_trees (map (name_at (names_in p.setup.actors)) p.setup.urgent))) refl

results_read : (p : ScenarioParts) → IsScenario p → results_of (tree_for p) ≡ Ok p.texts
unfolding texts_or tree_for
results_read p h = texts_read 0 (codes "results") 0 256 p.texts (tree_for p) (omega arith) h.few_rules refl

items_read : (p : ScenarioParts) → IsScenario p → items_in p.setup.max_actors (get (codes "actors") (tree_for p)) ≡ Ok (actor_trees (names_in p.setup.actors) p.setup.actors)
unfolding items_in tree_for
items_read p h = rw (count_trees (names_in p.setup.actors) p.setup.actors, le-leb (length p.setup.actors) p.setup.max_actors h.setup.actors) refl

whole_urgent : (p : ScenarioParts) → IsScenario p → urgent_texts p.format (tree_for p) ≡ Ok (map (name_at (names_in p.setup.actors)) p.setup.urgent)
unfolding tree_for
whole_urgent p h =
    let names = names_in p.setup.actors in
    urgent_read p.format (map (name_at names) p.setup.urgent) (tree_for p) h.format (λ one. ap (map (name_at names)) (h.none_urgent one)) (omega (arith, count_ids names p.setup.urgent, h.few_urgent)) refl

pub scenario_in-tree_for : (p : ScenarioParts) → IsScenario p → scenario_in (tree_for p) ≡ Ok p
unfolding scenario_in tree_for
scenario_in-tree_for p h =
    let names = names_in p.setup.actors in
    let placed : IsPlaced names = placed_names [] names h.names (λ k h. absurd (omega arith)) in
    let opening : AreOpening (length names) p.setup.actors = subst (λ n. AreOpening n p.setup.actors) (sym (count_names p.setup.actors)) h.states in
    let known : AreActors (length names) p.setup.urgent = subst (λ n. AreActors n p.setup.urgent) (sym (count_names p.setup.actors)) (actors_known (length p.setup.actors) p.setup.urgent h.setup.known) in
    rw (
      whole_known p,
      limits_read p h,
      whole_urgent p h,
      results_read p h,
      h.rules,
      items_read p h,
      names_read [] names 1 p.setup.actors placed h.names opening,
      starts_read names 1 p.setup.actors placed opening,
      all_found names (place_of 0 (codes "urgent")) p.setup.urgent placed known,
      same_ascending p.setup.urgent (from_increasing (λ a. a.0) p.setup.urgent h.setup.urgent),
    ) refl
