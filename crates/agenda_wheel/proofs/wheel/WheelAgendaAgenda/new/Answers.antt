use Rattle.agenda_wheel.proofs.Whole.{whole_empty}
use Rattle.agenda_wheel.proofs.wheel.WheelAgendaAgenda.new.Goals as goal

pub invariant_of-result : goal.invariant_of-result
invariant_of-result c =
    rw (c.new.ensures.items, c.in_ok-filled.ensures, c.in_ok-filled-2.ensures, c.in_ok-new.ensures) (whole_empty 18446744073709551615)
