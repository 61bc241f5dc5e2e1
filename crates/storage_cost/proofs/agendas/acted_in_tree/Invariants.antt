use Rattle.storage_cost.proofs.agendas.acted_in_tree.Given as goal

abbrev pub decreases-loop-left : goal.decreases-loop-left
decreases-loop-left l = l.left
