-- The printed tree has no float, and is shallow.
use Rattle.std.proofs.Common.{◌≡◌, ℕ, ◌≤◌, ◌==◌, List, [], ◌∷◌, map, Bool, true, false, ◌||◌, if◌then◌else◌, Option, Some, None, refl, arith, codes, Ordering, Less, Equal, Greater, nat_cmp}
use Rattle.std.specs.Cmp.Lexicographic.{slice_cmp}
use Rattle.std.specs.Ordering.{match_ordering}
use Rattle.serde_json.specs.Data.{Data, array, Items, Members, member, no_members, put, depth, items_depth, members_depth}
use Rattle.serde_json.specs.Read.{max_depth}
use Rattle.serde_json.specs.Written.{has_float, items_have_float, members_have_float}
use Rattle.sim_base.specs.declared.ids.ActorId.{ActorId}
use Rattle.sim_model.specs.declared.setup.Start.{Start}
use Rattle.scenario.specs.Build.{kind_of_actor, show}
use Rattle.scenario.specs.Print.{actor_trees, content_tree, kind_members, kind_tree, name_at, text_trees, tree_for, whole_tree, with_contents}
use Rattle.scenario.specs.ScenarioParts.{ScenarioParts}
use Rattle.scenario.specs.Table.{Row, fields_of, kind_name}
use Rattle.scenario.specs.Valid.{names_in}
use Rattle.scenario.specs.declared.any_actor.AnyActor.{AnyActor}
use Rattle.scenario.specs.declared.contents.Content.{Content}
use Rattle.scenario.specs.declared.contents.Content.TheVariants.{Number, Actor, Route}
use Rattle.scenario.specs.declared.table.Kind.{Kind}
use Rattle.scenario.specs.declared.whole.Limits.{Limits}

-- ---- no float

none_of : (a b : Bool) → (a || b) ≡ false → (a ≡ false) × (b ≡ false)
none_of false b h = (refl, h)
none_of true b h = absurd (cc)

texts_whole : (ts : List (List ℕ)) → items_have_float (text_trees ts) ≡ false
texts_whole [] = refl
texts_whole (t ∷ ts) = texts_whole ts

content_whole : (names : List (List ℕ)) (c : Content) → has_float (content_tree names c) ≡ false
content_whole names (Number n) = refl
content_whole names (Actor a) = refl
content_whole names (Route route) = texts_whole (map (name_at names) route)

put_whole : (k : List ℕ) (d : Data) (ms : Members) → has_float d ≡ false → members_have_float ms ≡ false → members_have_float (put k d ms) ≡ false
put_whole k d no_members one all = rw one refl
put_whole k d (member l e ms) one all = at (slice_cmp nat_cmp k l) (none_of (has_float e) (members_have_float ms) all) (put_whole k d ms one)
  where
    at : (order : Ordering) → (has_float e ≡ false) × (members_have_float ms ≡ false) → (members_have_float ms ≡ false → members_have_float (put k d ms) ≡ false)
        → members_have_float (match_ordering order (member k d (member l e ms)) (member l d ms) (member l e (put k d ms))) ≡ false
    at Less p more = rw (one, p.0) p.1
    at Equal p more = rw one p.1
    at Greater p more = rw p.0 (more p.1)

with_whole : (names : List (List ℕ)) (rs : List Row) (cs : List Content) (ms : Members) → members_have_float ms ≡ false → members_have_float (with_contents names rs cs ms) ≡ false
with_whole names [] cs ms h = h
with_whole names (r ∷ rs) [] ms h = h
with_whole names (r ∷ rs) (c ∷ cs) ms h = with_whole names rs cs (put r.name (content_tree names c) ms) (put_whole r.name (content_tree names c) ms (content_whole names c) h)

kind_whole : (names : List (List ℕ)) (name : List ℕ) (k : Option Kind) (cs : List Content) → has_float (kind_tree names name k cs) ≡ false
kind_whole names name None cs = refl
kind_whole names name (Some k) cs = with_whole names (fields_of k) cs (kind_members (kind_name k) name) refl

actors_whole : (names : List (List ℕ)) (ss : List (Start AnyActor)) → items_have_float (actor_trees names ss) ≡ false
actors_whole names [] = refl
actors_whole names (s ∷ ss) = rw (kind_whole names s.name (kind_of_actor s.state) (show s.state)) (actors_whole names ss)

last_whole : (first : Bool) (ts : List (List ℕ)) → members_have_float (if first then no_members else member (codes "urgent") (array (text_trees ts)) no_members) ≡ false
last_whole true ts = refl
last_whole false ts = rw (texts_whole ts) refl

pub no_float : (p : ScenarioParts) → has_float (tree_for p) ≡ false
unfolding tree_for
no_float p =
    let names = names_in p.setup.actors in
    rw (actors_whole names p.setup.actors, texts_whole p.texts) (last_whole (p.format == 1) (map (name_at names) p.setup.urgent))

-- ---- shallow

texts_flat : (ts : List (List ℕ)) → items_depth (text_trees ts) ≡ 0
texts_flat [] = refl
texts_flat (t ∷ ts) = omega (arith, texts_flat ts)

content_flat : (names : List (List ℕ)) (c : Content) → depth (content_tree names c) ≤ 1
content_flat names (Number n) = omega arith
content_flat names (Actor a) = omega arith
content_flat names (Route route) = omega (arith, texts_flat (map (name_at names) route))

put_flat : (k : List ℕ) (d : Data) (ms : Members) → depth d ≤ 1 → members_depth ms ≤ 1 → members_depth (put k d ms) ≤ 1
put_flat k d no_members one all = omega (arith, one)
put_flat k d (member l e ms) one all = at (slice_cmp nat_cmp k l) (put_flat k d ms one)
  where
    at : (order : Ordering) → (members_depth ms ≤ 1 → members_depth (put k d ms) ≤ 1)
        → members_depth (match_ordering order (member k d (member l e ms)) (member l d ms) (member l e (put k d ms))) ≤ 1
    at Less more = omega (arith, one, all)
    at Equal more = omega (arith, one, all)
    at Greater more = omega (arith, all, more (omega (arith, all)))

with_flat : (names : List (List ℕ)) (rs : List Row) (cs : List Content) (ms : Members) → members_depth ms ≤ 1 → members_depth (with_contents names rs cs ms) ≤ 1
with_flat names [] cs ms h = h
with_flat names (r ∷ rs) [] ms h = h
with_flat names (r ∷ rs) (c ∷ cs) ms h = with_flat names rs cs (put r.name (content_tree names c) ms) (put_flat r.name (content_tree names c) ms (content_flat names c) h)

kind_flat : (names : List (List ℕ)) (name : List ℕ) (k : Option Kind) (cs : List Content) → depth (kind_tree names name k cs) ≤ 2
kind_flat names name None cs = omega arith
kind_flat names name (Some k) cs = omega (arith, with_flat names (fields_of k) cs (kind_members (kind_name k) name) (omega arith))

actors_flat : (names : List (List ℕ)) (ss : List (Start AnyActor)) → items_depth (actor_trees names ss) ≤ 2
actors_flat names [] = omega arith
actors_flat names (s ∷ ss) = omega (arith, kind_flat names s.name (kind_of_actor s.state) (show s.state), actors_flat names ss)

last_flat : (first : Bool) (ts : List (List ℕ)) → members_depth (if first then no_members else member (codes "urgent") (array (text_trees ts)) no_members) ≤ 1
last_flat true ts = omega arith
last_flat false ts = omega (arith, texts_flat ts)

pub shallow : (p : ScenarioParts) → depth (tree_for p) ≤ max_depth
unfolding tree_for
shallow p =
    let names = names_in p.setup.actors in
    omega (arith, actors_flat names p.setup.actors, texts_flat p.texts, last_flat (p.format == 1) (map (name_at names) p.setup.urgent))

-- the tree of its parts
pub tree_for-parts : (p : ScenarioParts) (l : Limits) (ss : List (Start AnyActor)) (ts : List (List ℕ)) (us : List ActorId) (actors results urgent : Items)
    → l.format ≡ p.format → l.seed ≡ p.setup.seed → l.last_tick ≡ p.setup.last_tick → l.diasca_limit ≡ p.setup.diasca_limit → l.max_actors ≡ p.setup.max_actors
    → ss ≡ p.setup.actors → ts ≡ p.texts → us ≡ p.setup.urgent
    → actors ≡ actor_trees (names_in ss) ss → results ≡ text_trees ts → urgent ≡ text_trees (map (name_at (names_in ss)) us)
    → whole_tree l actors results urgent ≡ tree_for p
unfolding tree_for
tree_for-parts p l ss ts us actors results urgent a b c d e f g h i j k = rw (i, j, k, a, b, c, d, e, f, g, h)
