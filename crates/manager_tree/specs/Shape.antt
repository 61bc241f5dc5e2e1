-- What a tree of managers is.
use Rattle.std.specs.Prelude.{◌≡◌, ℕ, ◌+◌, ◌<◌, ◌≤◌, ◌==◌, List, length, filter, slice_index}
use Rattle.std.specs.List.{range_with_len}

-- the leaves; the parent of each node but the root, and the level of each node, by its number
pub record Shape : Type 0 where
  pub leaves : ℕ
  pub parents : List ℕ
  pub levels : List ℕ

abbrev pub node_count : Shape → ℕ
node_count t = length t.levels

-- the root is the last node
abbrev pub root_of : Shape → ℕ
root_of t = length t.parents

abbrev pub parent_of : Shape → ℕ → ℕ
parent_of t node = slice_index t.parents node

abbrev pub level_of : Shape → ℕ → ℕ
level_of t node = slice_index t.levels node

-- the nodes whose parent is this one, in order
abbrev pub children_of : Shape → ℕ → List ℕ
children_of t node = filter (λ child. parent_of t child == node) (range_with_len 0 (root_of t))

-- what holds of each tree
pub record IsTree (t : Shape) : Type 0 where
  pub least_leaves : 1 ≤ t.leaves
  pub most_leaves : t.leaves ≤ 16
  pub most_nodes : node_count t ≤ 31
  pub root_is_last : node_count t ≡ root_of t + 1
  pub root_above_leaves : t.leaves ≤ node_count t
  pub parent_above_child : (node : ℕ) → node < root_of t → node < parent_of t node
  pub parent_above_leaves : (node : ℕ) → node < root_of t → t.leaves ≤ parent_of t node
  pub parent_within : (node : ℕ) → node < root_of t → parent_of t node ≤ root_of t
  pub leaves_lowest : (node : ℕ) → node < t.leaves → level_of t node ≡ 0
  pub parent_one_higher : (node : ℕ) → node < root_of t → level_of t (parent_of t node) ≡ level_of t node + 1
