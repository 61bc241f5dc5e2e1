use Rattle.std.proofs.Common.{◌-◌}
use Rattle.manager_tree.specs.Tree.{height_of}
use Rattle.manager_tree.proofs.Built.{IsBuilt}
use Rattle.manager_tree.proofs.tree.Tree.of.Given as goal

abbrev pub invariant-loop-width : goal.invariant-loop-width
invariant-loop-width l = IsBuilt l.leaves l.fanout l.level l.first l.width l.parents.items l.levels.items l.begins.items

abbrev pub decreases-loop-width : goal.decreases-loop-width
decreases-loop-width l = height_of l.leaves l.fanout - l.level
