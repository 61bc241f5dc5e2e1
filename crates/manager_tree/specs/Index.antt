-- How a tree keeps its children.
use Rattle.std.specs.Prelude.{◌≡◌, ℕ, zero, suc, ◌+◌, ◌*◌, ◌<◌, ◌≤◌, List, [], ◌∷◌, ◌++◌, length, map, replicate, slice_index, slice_range}
use Rattle.std.specs.List.{range_with_len}
use Rattle.sim_base.specs.declared.ids.NodeId.{NodeId}
use Rattle.manager_tree.specs.Shape.{Shape, children_of, node_count, root_of}
use Rattle.manager_tree.specs.Tree.{first_of, height_of, width_of}
use Rattle.manager_tree.specs.declared.tree.Tree.TheInside.{Inside}

abbrev pub shape_of : Inside → Shape
shape_of t = record { leaves = t.leaves; parents = t.parents.items; levels = t.levels.items }

abbrev pub numbers_of : List NodeId → List ℕ
numbers_of nodes = map (λ node. node.0) nodes

-- the children of a node stand among the nodes from its begin to the next one's
pub record IsIndex (t : Shape) (nodes : List NodeId) (begins : List ℕ) : Type 0 where
  pub entries : length begins ≡ node_count t + 1
  pub all : numbers_of nodes ≡ range_with_len 0 (root_of t)
  pub ordered : (node : ℕ) → node < node_count t → slice_index begins node ≤ slice_index begins (node + 1)
  pub within : (node : ℕ) → node < node_count t → slice_index begins (node + 1) ≤ root_of t
  pub children : (node : ℕ) → node < node_count t
      → slice_range (range_with_len 0 (root_of t)) (slice_index begins node) (slice_index begins (node + 1)) ≡ children_of t node

-- where the children of each node begin: the leaves have none, and of a level's nodes each parent takes `fanout`
abbrev pub begins_below : (leaves fanout level : ℕ) → List ℕ
begins_below leaves fanout zero = replicate leaves 0
begins_below leaves fanout (suc level) =
    begins_below leaves fanout level
    ++ map (λ place. first_of leaves fanout level + place * fanout) (range_with_len 0 (width_of leaves fanout (suc level)))

abbrev pub begins_over : (leaves fanout : ℕ) → List ℕ
begins_over leaves fanout = begins_below leaves fanout (height_of leaves fanout) ++ first_of leaves fanout (height_of leaves fanout) ∷ []
