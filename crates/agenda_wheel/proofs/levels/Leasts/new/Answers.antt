use Rattle.agenda_wheel.proofs.Groups.{groups_empty}
use Rattle.agenda_wheel.proofs.levels.Leasts.new.Goals as goal

pub invariant_of-result : goal.invariant_of-result
invariant_of-result c = rw (c.in_ok-filled.ensures, c.in_ok-filled-2.ensures) groups_empty
