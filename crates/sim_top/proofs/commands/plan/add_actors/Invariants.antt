use Rattle.std.proofs.Common.{◌≡◌, ◌+◌, ◌++◌, drop, replicate}
use Rattle.placement.specs.Placing.{AreBelow}
use Rattle.sim_top.specs.Commands.Plan.{actor_lines}
use Rattle.sim_top.proofs.commands.plan.add_actors.Given as goal

abbrev pub invariant-loop-actor : goal.invariant-loop-actor
invariant-loop-actor l = record {
  number : l.id ≡ l.actor-index + 1;
  fewer : AreBelow l.id l.loads;
  so_far : l.text.items ++ actor_lines l.plan.policy l.loads l.id (drop l.actor-index l.actors)
      ≡ l.fn.text.items ++ actor_lines l.plan.policy (replicate l.plan.managers 0) 1 l.actors;
}
