use Rattle.std.proofs.Common.{◌≡◌}
use Rattle.std.specs.List.{range_with_len}
use Rattle.manager_tree.specs.Index.{numbers_of}
use Rattle.manager_tree.proofs.tree.nodes_below.Given as goal

abbrev pub invariant-loop-number : goal.invariant-loop-number
invariant-loop-number l = numbers_of l.nodes.items ≡ range_with_len 0 l.number
