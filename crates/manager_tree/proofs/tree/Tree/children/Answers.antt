use Rattle.std.proofs.Common.{rules, subst, ◌≤◌, length}
use Rattle.manager_tree.specs.Index.{IsIndex}
use Rattle.manager_tree.specs.Shape.{Shape}
use Rattle.manager_tree.proofs.Children.{children-exactly, children_are, children_in}
use Rattle.manager_tree.proofs.tree.Tree.children.Goals as goal

pub returns-clause-children : goal.returns-clause-children
returns-clause-children c =
    let index = subst (λ (t : Shape). IsIndex t c.self.inside.nodes.items c.self.inside.begins.items) c.self.view_is c.self.invariant.1 in
    rw c.deref.ensures.value (children_are _ _ _ _ _ _ index c.requires (record { begin_is = c.index.ensures; end_is = c.index-2.ensures }))

pub slice_bounds-result-end : goal.slice_bounds-result-end
slice_bounds-result-end c =
    let index = subst (λ (t : Shape). IsIndex t c.self.inside.nodes.items c.self.inside.begins.items) c.self.view_is c.self.invariant.1 in
    let in_nodes : (c.index.result.now ≤ c.index-2.result.now) × (c.index-2.result.now ≤ length c.self.inside.nodes.items) =
    children_in _ _ _ _ _ _ index c.requires (record { begin_is = c.index.ensures; end_is = c.index-2.ensures }) in
    search rules

pub returns-clause-exactly : goal.returns-clause-exactly
returns-clause-exactly c = λ child. children-exactly c.args.self.now c.args.node.0 child
