use Rattle.std.proofs.Common.{◌≡◌, ◌+◌, ◌≤◌}
use Rattle.storage_cost.proofs.agendas.ask_first.Given as goal

abbrev pub invariant-loop-id : goal.invariant-loop-id
invariant-loop-id g l = record {
  room : l.actors ≤ g.A.Agenda.spare l.agenda + l.id;
  known : l.actors ≤ g.A.Agenda.top l.agenda;
}
