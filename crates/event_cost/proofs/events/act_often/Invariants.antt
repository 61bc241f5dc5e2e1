use Rattle.std.proofs.Common.{◌≡◌}
use Rattle.actor_trait.specs.Seen.{seen}
use Rattle.event_cost.specs.Repeats.{after_ticks}
use Rattle.event_cost.proofs.events.act_often.Given as goal

abbrev pub invariant-loop-tick : goal.invariant-loop-tick
invariant-loop-tick g l = l.state ≡ after_ticks g.A.Actor.meaning l.fn.actor (seen l.event.first l.event.spontaneous l.event.inbox.now) l.tick
