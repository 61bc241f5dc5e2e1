use Rattle.std.proofs.Common.{map, ap, sym, subst, ◌∙◌}
use Rattle.std.specs.List.Sorted.{IsStrictlyIncreasing}
use Rattle.actor_trait.specs.InboxOrder.{inbox_order}
use Rattle.sim_model.specs.Moment.{next_id}
use Rattle.local_manager.specs.Views.{reports_now, sent_at}
use Rattle.work_claims.specs.Worlds.{placed_in}
use Rattle.crew_tests.proofs.Calms.{all_sent, none_shown, not_torn, reports_increase, settled_calmly}
use Rattle.crew_tests.proofs.closing.close.Goals as goal

pub settle-requires-clause-ascending : goal.settle-requires-clause-ascending
settle-requires-clause-ascending g c =
    let v = c.args.world.now in
    subst (λ rs. IsStrictlyIncreasing (map (λ r. r.id.0) rs)) (sym c.requires.harvest.reports)
    (reports_increase g.A.Actor.meaning g.met.A.Actor.lawful v (c.managers-managers.ensures.whole (not_torn v.phase c.requires.entered)))

pub close-requires-clause-calm : goal.close-requires-clause-calm
close-requires-clause-calm g c =
    none_shown g.A.Actor.meaning c.args.world.now c.max_actors-max_actors.result c.next_id-next_id.result c.now.result c.args.harvest.reports
    c.in_ok-settled.settled c.in_ok-settled.ensures.settled c.max_actors-max_actors.ensures c.next_id-next_id.ensures.id c.now.ensures
    c.requires.harvest.reports c.in_default.field-0 c.in_default.field-1 c.in_default.field-2 c.in_default.field-3 c.in_default.is

pub close-requires-clause-settled : goal.close-requires-clause-settled
close-requires-clause-settled g c =
    settled_calmly g.A.Actor.meaning c.args.world.now c.max_actors-max_actors.result c.next_id-next_id.result c.now.result c.args.harvest.reports
    c.in_ok-settled.settled c.in_ok-settled.ensures.settled c.max_actors-max_actors.ensures c.next_id-next_id.ensures.id c.now.ensures
    c.requires.harvest.reports c.in_default.field-0 c.in_default.field-1 c.in_default.field-2 c.in_default.field-3 c.in_default.is

pub close-requires-clause-inboxes : goal.close-requires-clause-inboxes
close-requires-clause-inboxes g c =
    let v = c.args.world.now in
    let m = g.A.Actor.meaning in
    let calm = none_shown m v c.max_actors-max_actors.result c.next_id-next_id.result c.now.result c.args.harvest.reports
    c.in_ok-settled.settled c.in_ok-settled.ensures.settled c.max_actors-max_actors.ensures c.next_id-next_id.ensures.id c.now.ensures
    c.requires.harvest.reports c.in_default.field-0 c.in_default.field-1 c.in_default.field-2 c.in_default.field-3 c.in_default.is in
    λ to. c.requires.harvest.inboxes to ∙ ap (λ l. inbox_order l to (sent_at v.one.parameters v.moment))
    (all_sent m (placed_in v) v.one.parameters.max_actors (next_id v.one) (reports_now m v) calm)
