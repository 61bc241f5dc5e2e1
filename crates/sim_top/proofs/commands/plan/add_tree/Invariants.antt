use Rattle.std.proofs.Common.{◌≡◌, ◌++◌}
use Rattle.std.specs.List.{flat_map, range_with_len}
use Rattle.sim_top.specs.Commands.Plan.{node_line}
use Rattle.sim_top.proofs.commands.plan.add_tree.Given as goal

abbrev pub invariant-loop-node : goal.invariant-loop-node
invariant-loop-node l = l.text.items ≡ l.fn.text.items ++ flat_map (node_line l.tree) (range_with_len 0 l.node)
