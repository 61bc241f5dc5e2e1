use Rattle.std.proofs.Common.{◌≡◌, length, ap, subst, sym, ◌∙◌}
use Rattle.tick_advance.specs.Harvests.{AreInboxesSent}
use Rattle.tick_advance.proofs.Passing.{no_inboxes}
use Rattle.tick_advance.proofs.sim.Sim.work.Goals as goal

pub conclude-requires-clause-inboxes : goal.conclude-requires-clause-inboxes
conclude-requires-clause-inboxes g c =
    let w = c.args.self.now.world in
    let none : length w.one.scheduled ≡ 0 =
    sym (ap (λ v. length v.world.one.scheduled) c.self.view_is) ∙ sym c.count_scheduled-scheduled.ensures ∙ c.if-scheduled-eq0.true in
    subst (λ boxes. AreInboxesSent g.A.Actor.meaning w boxes) (sym c.new-then-scheduled-eq0.ensures) (no_inboxes g.A.Actor.meaning w none)
