-- The two linkings of one vector of nodes.
use Rattle.std.specs.Prelude.{◌≡◌, ℕ, ◌+◌, ◌<◌, ◌≤◌, ◌%◌, cond, nat_lt, List, map, length, slice_set, Option, Some, None}
use Rattle.std.specs.Option.{option_map}
use Rattle.agenda.specs.declared.due.Due.{Due}
use Rattle.agenda_wheel.specs.Linked.{Linked}
use Rattle.agenda_wheel.specs.Nodes.{nil, node_of, next_of, prev_of, head_of, cut_nodes, cut_heads, put_nodes, put_heads}
use Rattle.agenda_wheel.specs.declared.links.Node.{Node}
use Rattle.agenda_wheel.specs.declared.links.Side.TheVariants as side

abbrev pub pair_at : List Node → ℕ → Option Due
pair_at ns x = (node_of ns x).pair

abbrev pub pairs_of : List Node → List (Option Due)
pairs_of ns = map (λ n. n.pair) ns

abbrev pub bucket : Due → ℕ
bucket d = d.tick % 1024

-- the bucket of a used node
abbrev pub tick_color : List Node → ℕ → Option ℕ
tick_color ns x = option_map bucket (pair_at ns x)

-- 0 for what is free, else one more than the actor
abbrev pub list_for : Option Due → ℕ
list_for None = 0
list_for (Some d) = d.actor.0 + 1

-- each node is in a list: that of its actor, or the free list
abbrev pub actor_color : List Node → ℕ → Option ℕ
actor_color ns x = cond (nat_lt x (length ns)) (Some (list_for (pair_at ns x))) None

abbrev pub tick_next : List Node → ℕ → ℕ
tick_next ns = next_of side.Tick ns

abbrev pub tick_prev : List Node → ℕ → ℕ
tick_prev ns = prev_of side.Tick ns

-- the used nodes are linked by the bucket of their tick
abbrev pub ByTick : List Node → List ℕ → Type 0
ByTick ns ts = Linked (next_of side.Tick ns) (prev_of side.Tick ns) (head_of ts) (tick_color ns) nil

-- all nodes are linked by their actor, and the free ones in a list of their own
abbrev pub ByActor : List Node → List ℕ → Type 0
ByActor ns hs = Linked (next_of side.Actor ns) (prev_of side.Actor ns) (head_of hs) (actor_color ns) nil

-- both linkings hold the used nodes, and the second the free ones too
pub record Sound (ns : List Node) (ts hs : List ℕ) : Type 0 where
  pub by_tick : ByTick ns ts
  pub by_actor : ByActor ns hs
  pub wheel : length ts ≡ 1024
  pub known : (x : ℕ) (d : Due) → pair_at ns x ≡ Some d → d.actor.0 + 1 < length hs
  pub small : length ns ≤ nil

-- after a used node has become free
abbrev pub cut_both : List Node → ℕ → List Node
cut_both ns x = cut_nodes side.Actor (cut_nodes side.Tick ns x) x

abbrev pub unpaired : List Node → ℕ → List Node
unpaired ns x = slice_set (cut_both ns x) x (record (node_of (cut_both ns x) x) { pair = None })

abbrev pub cut_actors : List Node → List ℕ → ℕ → Due → List ℕ
cut_actors ns hs x d = cut_heads side.Actor (cut_nodes side.Tick ns x) hs x (d.actor.0 + 1)

abbrev pub freed_nodes : List Node → List ℕ → ℕ → Due → List Node
freed_nodes ns hs x d = put_nodes side.Actor (unpaired ns x) (cut_actors ns hs x d) x 0

abbrev pub freed_ticks : List Node → List ℕ → ℕ → Due → List ℕ
freed_ticks ns hs x d = cut_heads side.Tick ns hs x (bucket d)

abbrev pub freed_actors : List Node → List ℕ → ℕ → Due → List ℕ
freed_actors ns hs x d = put_heads (cut_actors ns hs x d) x 0

-- after a free node has got a pair
abbrev pub paired : List Node → ℕ → Due → List Node
paired ns x d = slice_set (cut_nodes side.Actor ns x) x (record (node_of (cut_nodes side.Actor ns x) x) { pair = Some d })

abbrev pub in_bucket : List Node → List ℕ → ℕ → Due → List Node
in_bucket ns ts x d = put_nodes side.Tick (paired ns x d) ts x (bucket d)

abbrev pub rest_actors : List Node → List ℕ → ℕ → List ℕ
rest_actors ns hs x = cut_heads side.Actor ns hs x 0

abbrev pub used_nodes : List Node → List ℕ → List ℕ → ℕ → Due → List Node
used_nodes ns ts hs x d = put_nodes side.Actor (in_bucket ns ts x d) (rest_actors ns hs x) x (d.actor.0 + 1)

abbrev pub used_actors : List Node → List ℕ → ℕ → Due → List ℕ
used_actors ns hs x d = put_heads (rest_actors ns hs x) x (d.actor.0 + 1)
