use Rattle.std.proofs.Common.{◌≡◌, ◌≢◌, ◌<◌, ◌+◌, ◌-◌, ℕ, length, Some}
use Rattle.agenda_wheel.specs.Nodes.{next_of, head_of}
use Rattle.agenda_wheel.specs.Wheel.{pair_at}
use Rattle.agenda_wheel.specs.declared.links.Side.TheVariants as side
use Rattle.agenda_wheel.proofs.Walking.{visited}
use Rattle.agenda_wheel.proofs.walks.holds.Given as goal

abbrev pub invariant-loop-at : goal.invariant-loop-at
invariant-loop-at l = record {
  place : l.at ≡ visited (next_of side.Actor l.nodes) (head_of l.fn.actors (l.fn.due.actor.0 + 1)) l.steps;
  real : (i : ℕ) → i < l.steps → visited (next_of side.Actor l.nodes) (head_of l.fn.actors (l.fn.due.actor.0 + 1)) i < length l.nodes;
  others : (i : ℕ) → i < l.steps → pair_at l.nodes (visited (next_of side.Actor l.nodes)
      (head_of l.fn.actors (l.fn.due.actor.0 + 1)) i) ≢ Some l.fn.due;
}

abbrev pub decreases-loop-at : goal.decreases-loop-at
decreases-loop-at l = length l.nodes - l.steps
