-- What holds of the tree over so many leaves.
use Rattle.std.proofs.Common.{◌≡◌, ℕ, ◌+◌, true, List, length, refl, subst, sym, eqb, ltb, leb, eqb-true, ltb-true, leb-true}
use Rattle.std.specs.Prelude.{slice_index, slice_range}
use Rattle.std.specs.List.{range_with_len}
use Rattle.std.specs.Cmp.Lexicographic.{pointwise}
use Rattle.std.proofs.lemmas.Slice.Eq.{slice_eq-Decides}
use Rattle.std.proofs.lemmas.Bool.Decides.{Decides-eqb}
use Rattle.sim_base.specs.declared.ids.NodeId.{NodeId}
use Rattle.manager_tree.specs.Index.{IsIndex, begins_over, numbers_of}
use Rattle.manager_tree.specs.Shape.{IsTree, Shape, children_of, level_of, node_count, parent_of, root_of}
use Rattle.manager_tree.specs.Tree.{tree_over}
use Rattle.manager_tree.proofs.Built.{IsDone}
use Rattle.manager_tree.proofs.Limits.{InLimits, at_limits, at_number}

pub IsTree-tree_over : (leaves fanout : ℕ) → InLimits leaves fanout → IsTree (tree_over leaves fanout)
IsTree-tree_over leaves fanout within = record {
  least_leaves = within.least_leaves;
  most_leaves = within.most_leaves;
  most_nodes = leb-true _ _ (at_limits (λ l f. leb (node_count (tree_over l f)) 31) refl leaves fanout within);
  root_is_last = eqb-true _ _ (at_limits (λ l f. eqb (node_count (tree_over l f)) (root_of (tree_over l f) + 1)) refl leaves fanout within);
  root_above_leaves = leb-true _ _ (at_limits (λ l f. leb l (node_count (tree_over l f))) refl leaves fanout within);
  parent_above_child = λ node below. ltb-true _ _ (at_number tree_over (λ t n. ltb n (parent_of t n)) root_of refl leaves fanout within node below);
  parent_above_leaves = λ node below. leb-true _ _ (at_number tree_over (λ t n. leb t.leaves (parent_of t n)) root_of refl leaves fanout within node below);
  parent_within = λ node below. leb-true _ _ (at_number tree_over (λ t n. leb (parent_of t n) (root_of t)) root_of refl leaves fanout within node below);
  leaves_lowest = λ node below. eqb-true _ _ (at_number tree_over (λ t n. eqb (level_of t n) 0) (λ t. t.leaves) refl leaves fanout within node below);
  parent_one_higher = λ node below. eqb-true _ _ (at_number tree_over (λ t n. eqb (level_of t (parent_of t n)) (level_of t n + 1)) root_of refl leaves fanout within node below);
}

-- a tree and where its nodes' children begin
abbrev built_over : ℕ → ℕ → Shape × List ℕ
built_over leaves fanout = (tree_over leaves fanout, begins_over leaves fanout)

abbrev nodes_in : Shape × List ℕ → ℕ
nodes_in b = node_count b.0

abbrev begin_of : Shape × List ℕ → ℕ → ℕ
begin_of b node = slice_index b.1 node

abbrev range_of : Shape × List ℕ → ℕ → List ℕ
range_of b node = slice_range (range_with_len 0 (root_of b.0)) (begin_of b node) (begin_of b (node + 1))

same_numbers : (xs ys : List ℕ) → pointwise eqb xs ys ≡ true → xs ≡ ys
same_numbers xs ys passed = (slice_eq-Decides {E = eqb} Decides-eqb xs ys (pointwise eqb xs ys) refl).0 passed

pub IsIndex-tree_over : (leaves fanout : ℕ) (nodes : List NodeId) → InLimits leaves fanout
    → numbers_of nodes ≡ range_with_len 0 (root_of (tree_over leaves fanout)) → IsIndex (tree_over leaves fanout) nodes (begins_over leaves fanout)
IsIndex-tree_over leaves fanout nodes within all_nodes = record {
  entries = eqb-true _ _ (at_limits (λ l f. eqb (length (begins_over l f)) (node_count (tree_over l f) + 1)) refl leaves fanout within);
  all = all_nodes;
  ordered = λ node below. leb-true _ _ (at_number built_over (λ b n. leb (begin_of b n) (begin_of b (n + 1))) nodes_in refl leaves fanout within node below);
  within = λ node below. leb-true _ _ (at_number built_over (λ b n. leb (begin_of b (n + 1)) (root_of b.0)) nodes_in refl leaves fanout within node below);
  children = λ node below. same_numbers _ _ (at_number built_over (λ b n. pointwise eqb (range_of b n) (children_of b.0 n)) nodes_in refl leaves fanout within node below);
}

-- what was built keeps its children so
pub IsIndex-built : (leaves fanout first : ℕ) (parents levels begins : List ℕ) (nodes : List NodeId) → InLimits leaves fanout
    → IsDone leaves fanout first parents levels begins → numbers_of nodes ≡ range_with_len 0 first
    → IsIndex (record { leaves = leaves; parents = parents; levels = levels }) nodes begins
IsIndex-built leaves fanout first parents levels begins nodes limits done numbers =
    let below_root : numbers_of nodes ≡ range_with_len 0 (length parents) = rw done.root at numbers in
    let all = subst (λ (t : Shape). numbers_of nodes ≡ range_with_len 0 (root_of t)) done.shape below_root in
    rw done.begins_are (subst (λ (t : Shape). IsIndex t nodes (begins_over leaves fanout)) (sym done.shape) (IsIndex-tree_over leaves fanout nodes limits all))

pub IsTree-built : (leaves fanout first : ℕ) (parents levels begins : List ℕ) → InLimits leaves fanout
    → IsDone leaves fanout first parents levels begins → IsTree (record { leaves = leaves; parents = parents; levels = levels })
IsTree-built leaves fanout first parents levels begins limits done =
    subst (λ (t : Shape). IsTree t) (sym done.shape) (IsTree-tree_over leaves fanout limits)
