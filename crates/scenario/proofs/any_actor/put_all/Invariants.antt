use Rattle.std.proofs.Common.{◌≡◌, ◌++◌, map}
use Rattle.scenario.proofs.any_actor.put_all.Given as goal

abbrev pub invariant-loop-actor : goal.invariant-loop-actor
invariant-loop-actor g l = l.all.items ++ map g.A.Variant.variant l.actor-iterator.rest.items ≡ map g.A.Variant.variant l.fn.actors
