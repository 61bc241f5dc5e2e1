use Rattle.std.proofs.Common.{subst, sym}
use Rattle.quiescence.specs.Rule.{Holding}
use Rattle.work_claims.specs.Together.{AllGathered}
use Rattle.work_claims.proofs.Phases.{gathered_all}
use Rattle.work_claims.proofs.collect_together.collect_last.Goals as goal

pub returns : goal.returns
returns g c =
    let m = g.A.Actor.meaning in
    let p = g.W.Scene.placed c.args.world.now in
    let did = c.collect_in-hand.ensures in
    subst (λ (h : Holding). AllGathered m p c.args.round.now c.args.reports.now (record {
      hand = h;
      inboxes = c.in_ok-joined.field-0;
      short = c.collect_in-hand.result.short;
    })) (sym c.hand.view_is)
    (gathered_all m p c.args.round.now c.requires.fits c.args.reports.now c.args.before c.collect_in-hand.result c.in_ok-joined.field-0
    c.collect_in-hand.result.short c.requires.gathered c.requires.not_short
    (record { of = did.of; collects = did.collects; collected = did.collected; inboxes = did.inboxes; no_duty = did.no_duty }) c.if-short.false
    c.in_ok-joined.ensures)
