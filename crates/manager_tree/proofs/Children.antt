-- The children of a node stand side by side.
use Rattle.std.proofs.Common.{◌≡◌, ℕ, ◌+◌, ◌-◌, ◌<◌, ◌≤◌, List, length, take, drop, get_or, arith, ap, ◌↔◌, eqb, eqb-true, eq-eqb, Bool}
use Rattle.std.specs.List.{Contains}
use Rattle.std.proofs.lemmas.List.{drop-map, get_or_default, length-map, take-map}
use Rattle.std.proofs.lemmas.List.FromFn.{length-range_with_len}
use Rattle.sim_base.specs.declared.ids.NodeId.{NodeId}
use Rattle.manager_tree.specs.Index.{IsIndex, numbers_of}
use Rattle.manager_tree.specs.Shape.{Shape, children_of, node_count, parent_of, root_of}
use Rattle.manager_tree.proofs.Kept.{kept, keeps}

-- what was read is where the children of a node begin and where the next one's do
pub record IsRead (begins : List ℕ) (node begin end : ℕ) : Type 0 where
  pub begin_is : begin ≡ get_or begins node begin
  pub end_is : end ≡ get_or begins (node + 1) end

at_zero : (t : Shape) (nodes : List NodeId) (begins : List ℕ) (node begin end : ℕ) → IsIndex t nodes begins → node < node_count t
    → IsRead begins node begin end → (begin ≡ get_or begins node 0) × (end ≡ get_or begins (node + 1) 0)
at_zero t nodes begins node begin end index below read =
    let long : node + 1 < length begins = omega (arith, index.entries) in
    let first : get_or begins node begin ≡ get_or begins node 0 = get_or_default begins node begin 0 (omega arith) in
    let last : get_or begins (node + 1) end ≡ get_or begins (node + 1) 0 = get_or_default begins (node + 1) end 0 long in
    (rw first at read.begin_is, rw last at read.end_is)

pub children_in : (t : Shape) (nodes : List NodeId) (begins : List ℕ) (node begin end : ℕ) → IsIndex t nodes begins → node < node_count t
    → IsRead begins node begin end → (begin ≤ end) × (end ≤ length nodes)
children_in t nodes begins node begin end index below read =
    let at = at_zero t nodes begins node begin end index below read in
    let all : length nodes ≡ root_of t = simp (length-map, length-range_with_len) at (ap length index.all) in
    (omega (arith, at, index.ordered node below), omega (arith, at, all, index.within node below))

pub children_are : (t : Shape) (nodes : List NodeId) (begins : List ℕ) (node begin end : ℕ) → IsIndex t nodes begins → node < node_count t
    → IsRead begins node begin end → numbers_of (take (end - begin) (drop begin nodes)) ≡ children_of t node
children_are t nodes begins node begin end index below read =
    let at = at_zero t nodes begins node begin end index below read in
    rw (← take-map (λ (n : NodeId). n.0) (end - begin) (drop begin nodes), ← drop-map (λ (n : NodeId). n.0) begin nodes, index.all, at.0, at.1) (index.children node below)

-- each node below the root is a child of its parent, and of no other
pub children-exactly : (t : Shape) (node child : ℕ) → Contains (children_of t node) child ↔ ((child < root_of t) × (parent_of t child ≡ node))
children-exactly t node child =
    let test : ℕ → Bool = λ k. eqb (parent_of t k) node in (
      (λ h. let k = kept test 0 (root_of t) child h in (omega (arith, k.most), eqb-true _ _ k.passes)),
      (λ h. keeps test 0 (root_of t) child (record { least = omega arith; most = omega (arith, h); passes = eq-eqb _ _ h.1 })),
    )
