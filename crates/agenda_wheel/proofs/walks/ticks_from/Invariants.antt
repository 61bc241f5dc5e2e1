use Rattle.agenda_wheel.specs.Nodes.{nil, next_of}
use Rattle.agenda_wheel.specs.Wheel.{pair_at}
use Rattle.agenda_wheel.specs.declared.links.Side.TheVariants as side
use Rattle.agenda_wheel.proofs.Looking.{Pushing}
use Rattle.agenda_wheel.proofs.Seeing.{Ahead}
use Rattle.agenda_wheel.proofs.walks.ticks_from.Given as goal

abbrev pub invariant-loop-at : goal.invariant-loop-at
invariant-loop-at l = Ahead (next_of side.Actor l.nodes) (pair_at l.nodes) nil l.at l.left (Pushing l.nodes l.fn.actor l.ticks.items)

abbrev pub decreases-loop-at : goal.decreases-loop-at
decreases-loop-at l = l.left
