use Rattle.std.proofs.Common.{◌≡◌, ◌+◌, ◌++◌, length, drop, count_by}
use Rattle.agenda.specs.Dues.{due_at, without_tick}
use Rattle.agenda_wheel.specs.Kept.{is_free}
use Rattle.agenda_wheel.specs.Nodes.{nil, next_of}
use Rattle.agenda_wheel.specs.Slots.{sorted, Distinct}
use Rattle.agenda_wheel.specs.Wheel.{pair_at, pairs_of, Sound}
use Rattle.agenda_wheel.specs.declared.links.Side.TheVariants as side
use Rattle.agenda_wheel.proofs.Seeing.{Ahead}
use Rattle.agenda_wheel.proofs.Taking.{Taking}
use Rattle.agenda_wheel.proofs.moves.take_each.Given as goal

abbrev pub invariant-loop-at : goal.invariant-loop-at
invariant-loop-at l = record {
  sound : Sound l.nodes l.ticks l.actors;
  apart : Distinct (pairs_of l.nodes);
  ahead : Ahead (next_of side.Tick l.nodes) (pair_at l.nodes) nil l.at l.left
      (Taking l.fn.tick (sorted (pairs_of l.initial.nodes)) (sorted (pairs_of l.nodes)) (drop (length l.initial.into.list) l.into.list));
  got : l.into.list ≡ l.initial.into.list ++ drop (length l.initial.into.list) l.into.list;
  left : without_tick l.fn.tick (sorted (pairs_of l.nodes)) ≡ without_tick l.fn.tick (sorted (pairs_of l.initial.nodes));
  room : l.into.spare + length (due_at l.fn.tick (sorted (pairs_of l.initial.nodes))) ≡ l.initial.into.spare + length
      (due_at l.fn.tick (sorted (pairs_of l.nodes)));
  free : count_by is_free (pairs_of l.nodes) + length (due_at l.fn.tick (sorted (pairs_of l.nodes))) ≡ count_by is_free
      (pairs_of l.initial.nodes) + length (due_at l.fn.tick (sorted (pairs_of l.initial.nodes)));
}

abbrev pub decreases-loop-at : goal.decreases-loop-at
decreases-loop-at l = l.left
