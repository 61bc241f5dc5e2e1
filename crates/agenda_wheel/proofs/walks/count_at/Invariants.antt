use Rattle.std.proofs.Common.{◌+◌, ◌≤◌, length}
use Rattle.agenda_wheel.specs.Nodes.{nil, next_of}
use Rattle.agenda_wheel.specs.Wheel.{pair_at}
use Rattle.agenda_wheel.specs.declared.links.Side.TheVariants as side
use Rattle.agenda_wheel.proofs.Looking.{Counting}
use Rattle.agenda_wheel.proofs.Seeing.{Ahead}
use Rattle.agenda_wheel.proofs.walks.count_at.Given as goal

abbrev pub invariant-loop-at : goal.invariant-loop-at
invariant-loop-at l = record {
  few : l.count + l.left ≤ length l.nodes;
  ahead : Ahead (next_of side.Tick l.nodes) (pair_at l.nodes) nil l.at l.left (Counting l.nodes l.fn.tick l.count);
}

abbrev pub decreases-loop-at : goal.decreases-loop-at
decreases-loop-at l = l.left
