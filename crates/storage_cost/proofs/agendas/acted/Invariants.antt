use Rattle.storage_cost.proofs.agendas.acted.Given as goal

abbrev pub decreases-loop-left : goal.decreases-loop-left
decreases-loop-left g l = l.left
