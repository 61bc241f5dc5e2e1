-- What a scenario is printed as: the compact text of a tree whose keys are in the order of their bytes.
use Rattle.std.specs.Prelude.{ℕ, ◌-◌, ◌==◌, List, [], ◌∷◌, map, slice_index_or, codes, Option, Some, None, if◌then◌else◌}
use Rattle.serde_json.specs.Data.{Data, number, unsigned, string, array, object, Items, no_items, item, Members, no_members, member, put}
use Rattle.serde_json.specs.Written.{compact_text}
use Rattle.sim_base.specs.declared.ids.ActorId.{ActorId}
use Rattle.sim_model.specs.declared.setup.Start.{Start}
use Rattle.scenario.specs.Build.{kind_of_actor, show}
use Rattle.scenario.specs.ScenarioParts.{ScenarioParts}
use Rattle.scenario.specs.Table.{Row, fields_of, kind_name}
use Rattle.scenario.specs.Valid.{names_in}
use Rattle.scenario.specs.declared.any_actor.AnyActor.{AnyActor}
use Rattle.scenario.specs.declared.contents.Content.{Content}
use Rattle.scenario.specs.declared.contents.Content.TheVariants.{Number, Actor, Route}
use Rattle.scenario.specs.declared.table.Kind.{Kind}
use Rattle.scenario.specs.declared.whole.Limits.{Limits}

-- the name of an actor
abbrev pub name_at : List (List ℕ) → ActorId → List ℕ
name_at names id = slice_index_or names (id.0 - 1) []

abbrev pub text_trees : List (List ℕ) → Items
text_trees [] = no_items
text_trees (t ∷ ts) = item (string t) (text_trees ts)

abbrev pub content_tree : List (List ℕ) → Content → Data
content_tree names (Number n) = number (unsigned n)
content_tree names (Actor a) = string (name_at names a)
content_tree names (Route route) = array (text_trees (map (name_at names) route))

-- these members, with those of the fields
abbrev pub with_contents : List (List ℕ) → List Row → List Content → Members → Members
with_contents names [] cs ms = ms
with_contents names (r ∷ rs) [] ms = ms
with_contents names (r ∷ rs) (c ∷ cs) ms = with_contents names rs cs (put r.name (content_tree names c) ms)

-- the members of an actor beside its kind's fields
abbrev pub kind_members : List ℕ → List ℕ → Members
kind_members kind name = member (codes "kind") (string kind) (member (codes "name") (string name) no_members)

-- an actor with a name, among actors of these names; a scenario names no vehicle
abbrev pub kind_tree : List (List ℕ) → List ℕ → Option Kind → List Content → Data
kind_tree names name None cs = object no_members
kind_tree names name (Some k) cs = object (with_contents names (fields_of k) cs (kind_members (kind_name k) name))

abbrev pub actor_tree : List (List ℕ) → Start AnyActor → Data
actor_tree names s = kind_tree names s.name (kind_of_actor s.state) (show s.state)

abbrev pub actor_trees : List (List ℕ) → List (Start AnyActor) → Items
actor_trees names [] = no_items
actor_trees names (s ∷ ss) = item (actor_tree names s) (actor_trees names ss)

-- the whole: its numbers, the trees of its actors and of its rules, and what stands last
abbrev pub whole_members : Limits → Items → Items → Members → Members
whole_members l actors results last =
    member (codes "actors") (array actors) (
    member (codes "diasca_limit") (number (unsigned l.diasca_limit)) (
    member (codes "format") (number (unsigned l.format)) (
    member (codes "last_tick") (number (unsigned l.last_tick)) (
    member (codes "max_actors") (number (unsigned l.max_actors)) (
    member (codes "results") (array results) (
    member (codes "seed") (number (unsigned l.seed)) last))))))

-- format 1 doesn't have the field urgent
abbrev pub urgent_member : ℕ → Items → Members
urgent_member format urgent = if format == 1 then no_members else member (codes "urgent") (array urgent) no_members

abbrev pub whole_tree : Limits → Items → Items → Items → Data
whole_tree l actors results urgent = object (whole_members l actors results (urgent_member l.format urgent))

abbrev pub limits_in : ScenarioParts → Limits
limits_in p =
    let s = p.setup in
    record { format = p.format; seed = s.seed; last_tick = s.last_tick; diasca_limit = s.diasca_limit; max_actors = s.max_actors }

unfoldable pub tree_for : ScenarioParts → Data
tree_for p =
    let names = names_in p.setup.actors in
    whole_tree (limits_in p) (actor_trees names p.setup.actors) (text_trees p.texts) (text_trees (map (name_at names) p.setup.urgent))

abbrev pub canonical_text : ScenarioParts → List ℕ
canonical_text p = compact_text (tree_for p)
