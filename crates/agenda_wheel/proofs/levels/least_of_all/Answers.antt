use Rattle.std.proofs.Common.{◌+◌, refl, sym, subst}
use Rattle.agenda_wheel.specs.Seen.{IsLeastBelow}
use Rattle.agenda_wheel.proofs.Firsts.{least_more}
use Rattle.agenda_wheel.proofs.levels.least_of_all.Goals as goal

pub loop-tick-preserved : goal.loop-tick-preserved
loop-tick-preserved c =
    subst (IsLeastBelow c.args.leasts.now (c.loop-tick.tick-index + 1)) (sym c.lesser-least.ensures)
    (least_more c.args.leasts.now c.loop-tick.tick-index c.loop-tick.least _ refl c.loop-tick.invariant)
