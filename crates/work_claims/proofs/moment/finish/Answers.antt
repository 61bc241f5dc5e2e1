use Rattle.std.proofs.Common.{◌≡◌, List, [], ◌∷◌, ◌++◌, ap, subst, ◌∙◌}
use Rattle.quiet_core.specs.Account.{Account}
use Rattle.quiescence.specs.Ended.{IsClosed, IsUnfinished}
use Rattle.quiescence.specs.Joint.{joint}
use Rattle.quiescence.specs.Rule.{Holding}
use Rattle.work_claims.proofs.Closing.{closing, not_unfinished, taken_acked}
use Rattle.work_claims.proofs.moment.finish.Goals as goal

pub unreachable-requires : goal.unreachable-requires
unreachable-requires g c =
    let one : c.push.new.self.items ≡ c.args.collected.hand ∷ [] =
    c.in_ok-push.ensures.items ∙ ap (λ (l : List Holding). l ++ c.args.collected.hand ∷ []) c.in_ok-hands.ensures.items in
    let left : IsUnfinished c.args.round.shape c.args.collected.hand.account c.in-Err.field-0 =
    subst (λ (a : Account). IsUnfinished c.args.round.shape a c.in-Err.field-0) (ap joint one) c.in-Err.ensures in
    not_unfinished (g.W.Scene.placed c.args.world.now) c.args.round.shape c.requires.fits g.A.Actor.meaning c.args.reports.now
    c.args.collected.hand.account c.requires.gathered.work c.requires.gathered.no_duty
    (taken_acked g.A.Actor.meaning (g.W.Scene.placed c.args.world.now) c.args.round c.args.reports.now c.args.collected c.requires.gathered)
    c.in-Err.field-0 left

pub returns-clause-closed : goal.returns-clause-closed
returns-clause-closed g c =
    let one : c.push.new.self.items ≡ c.args.collected.hand ∷ [] =
    c.in_ok-push.ensures.items ∙ ap (λ (l : List Holding). l ++ c.args.collected.hand ∷ []) c.in_ok-hands.ensures.items in
    let is : IsClosed c.args.round.shape c.args.collected.hand.account c.in-Ok.closed =
    subst (λ (a : Account). IsClosed c.args.round.shape a c.in-Ok.closed) (ap joint one) c.in-Ok.ensures in
    closing (g.W.Scene.placed c.args.world.now) c.args.round.shape c.requires.fits g.A.Actor.meaning c.args.reports.now
    c.args.collected.hand.account c.requires.gathered.work c.requires.gathered.no_duty
    (taken_acked g.A.Actor.meaning (g.W.Scene.placed c.args.world.now) c.args.round c.args.reports.now c.args.collected c.requires.gathered)
    c.in-Ok.closed is c.requires.reports
