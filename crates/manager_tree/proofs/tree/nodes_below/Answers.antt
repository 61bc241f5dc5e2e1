use Rattle.manager_tree.proofs.Pushed.{numbers_more}
use Rattle.manager_tree.proofs.tree.nodes_below.Goals as goal

pub loop-number-preserved : goal.loop-number-preserved
loop-number-preserved c = numbers_more _ _ _ c.loop-number.invariant c.in_ok-push.ensures.items
