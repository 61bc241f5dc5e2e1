use Rattle.std.proofs.Common.{subst}
use Rattle.quiescence.specs.Learnt.{Learnt}
use Rattle.quiescence.specs.Rule.{RoundId}
use Rattle.work_claims.proofs.Closing.{are_reports, is_ready}
use Rattle.work_claims.proofs.moment.in_order.Goals as goal

pub returns-clause-ready : goal.returns-clause-ready
returns-clause-ready g c =
    let learnt : Learnt c.args.round.now.shape c.args.acted.hand.account =
    subst (λ (r : RoundId). Learnt r.shape c.args.acted.hand.account) c.requires.worked.of c.learn.ensures.learnt in
    is_ready g.A.Actor.meaning (g.W.Scene.placed c.args.world.now) c.args.round.now c.requires.fits c.args.acted
    c.requires.worked learnt c.if-short.false c.in_ok-reports.reports c.in_ok-reports.ensures.permutation

pub returns-clause-reports : goal.returns-clause-reports
returns-clause-reports g c =
    let learnt : Learnt c.args.round.now.shape c.args.acted.hand.account =
    subst (λ (r : RoundId). Learnt r.shape c.args.acted.hand.account) c.requires.worked.of c.learn.ensures.learnt in
    are_reports g.A.Actor.meaning (g.W.Scene.placed c.args.world.now) c.args.round.now c.requires.fits c.args.acted
    c.requires.worked learnt c.if-short.false c.in_ok-reports.reports c.in_ok-reports.ensures.permutation
    (c.managers-managers.ensures.placed c.requires.entered) c.in_ok-reports.ensures.ascending
