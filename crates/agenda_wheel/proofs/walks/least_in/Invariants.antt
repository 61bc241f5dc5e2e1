use Rattle.agenda_wheel.specs.Nodes.{nil, next_of}
use Rattle.agenda_wheel.specs.Wheel.{pair_at}
use Rattle.agenda_wheel.specs.declared.links.Side.TheVariants as side
use Rattle.agenda_wheel.proofs.Looking.{Lessening}
use Rattle.agenda_wheel.proofs.Seeing.{Ahead}
use Rattle.agenda_wheel.proofs.walks.least_in.Given as goal

abbrev pub invariant-loop-at : goal.invariant-loop-at
invariant-loop-at l = Ahead (next_of side.Tick l.nodes) (pair_at l.nodes) nil l.at l.left (Lessening l.nodes l.fn.bucket l.least)

abbrev pub decreases-loop-at : goal.decreases-loop-at
decreases-loop-at l = l.left
