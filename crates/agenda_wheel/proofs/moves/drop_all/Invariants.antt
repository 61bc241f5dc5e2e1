use Rattle.std.proofs.Common.{◌≡◌, length, count_by, ◌+◌}
use Rattle.agenda.specs.Dues.{without_actor, ticks_of}
use Rattle.agenda_wheel.specs.Kept.{is_free, KeepsLeasts}
use Rattle.agenda_wheel.specs.Slots.{sorted, Distinct}
use Rattle.agenda_wheel.specs.Wheel.{pairs_of, Sound}
use Rattle.agenda_wheel.proofs.moves.drop_all.Given as goal

abbrev pub invariant-loop-due : goal.invariant-loop-due
invariant-loop-due g l = record {
  sound : Sound l.nodes l.ticks l.actors;
  apart : Distinct (pairs_of l.nodes);
  leasts : KeepsLeasts (sorted (pairs_of l.nodes)) l.leasts;
  free : count_by is_free (pairs_of l.nodes) ≡ count_by is_free (pairs_of l.initial.nodes) + l.dropped;
  left : without_actor l.fn.actor (sorted (pairs_of l.nodes)) ≡ without_actor l.fn.actor (sorted (pairs_of l.initial.nodes));
  count : l.steps + length (ticks_of l.fn.actor (sorted (pairs_of l.nodes))) ≡ l.initial.steps + length
      (ticks_of l.fn.actor (sorted (pairs_of l.initial.nodes)));
}

abbrev pub decreases-loop-due : goal.decreases-loop-due
decreases-loop-due g l = length (ticks_of l.fn.actor (sorted (pairs_of l.nodes)))
