use Rattle.std.proofs.Common.{◌≡◌, ◌+◌, ◌≤◌, length}
use Rattle.storage_cost.proofs.agendas.ask_again.Given as goal

abbrev pub invariant-loop-id : goal.invariant-loop-id
invariant-loop-id g l = record {
  room : length l.ids ≤ g.A.Agenda.spare l.agenda + l.id-index;
  known : l.actors ≤ g.A.Agenda.top l.agenda;
}
