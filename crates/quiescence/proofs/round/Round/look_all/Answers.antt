use Rattle.quiescence.proofs.Looks.{looked_next}
use Rattle.quiescence.proofs.round.Round.look_all.Goals as goal

pub loop-m-preserved : goal.loop-m-preserved
loop-m-preserved c = looked_next _ _ c.loop-m.hand _ _ c.loop-m.invariant c.look_from.ensures.looked
