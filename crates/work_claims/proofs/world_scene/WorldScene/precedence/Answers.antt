use Rattle.std.proofs.Common.{ap, sym, subst, ◌∙◌}
use Rattle.actor_trait.specs.InboxOrder.{AreUrgent}
use Rattle.work_claims.proofs.Worlds.{urgent_now}
use Rattle.work_claims.proofs.world_scene.WorldScene.precedence.Goals as goal

pub invariant_of-result : goal.invariant_of-result
invariant_of-result g c =
    subst AreUrgent (sym (c.as_slice.ensures ∙ ap (λ p. p.urgent) c.parameters-parameters.ensures))
    (urgent_now g.A.Actor.meaning c.args.self.now c.managers-managers.ensures.whole c.requires.entered)
