use Rattle.std.proofs.Common.{sym, subst, length}
use Rattle.sim_model.specs.declared.setup.Start.{Start}
use Rattle.scenario.specs.Valid.{IsOpening}
use Rattle.scenario.specs.declared.any_actor.AnyActor.{AnyActor}
use Rattle.scenario.proofs.Printable.{one_more_actor, opening_at}
use Rattle.scenario.proofs.printing.actor_values.Goals as goal

pub actor_value-requires-clause-opening : goal.actor_value-requires-clause-opening
actor_value-requires-clause-opening c =
    subst (λ (s : Start AnyActor). IsOpening (length c.args.starts.now) s.state) (sym c.start-item.is) (opening_at _ c.args.starts.now c.loop-start.start-index c.start-item.result c.loop-start-test.true c.requires.opening)

pub loop-start-preserved : goal.loop-start-preserved
loop-start-preserved c =
    rw c.in_ok-push.ensures.items
    (one_more_actor _ c.args.starts.now c.loop-start.start-index c.start-item.result c.loop-start.values.items _ c.loop-start-test.true c.start-item.is c.loop-start.invariant c.in_ok-actor_value.ensures)
