use Rattle.std.proofs.Common.{◌++◌, false, get_or, arith, append-nil, ap, sym, ◌∙◌}
use Rattle.std.proofs.lemmas.List.{take_all}
use Rattle.std.specs.List.{filter}
use Rattle.work_claims.specs.Letters.{letters_sent}
use Rattle.work_claims.proofs.Gathers.{sent_next}
use Rattle.work_claims.proofs.gathering.gather.Goals as goal

pub loop-report-init : goal.loop-report-init
loop-report-init g c = c.reserve.ensures.items ∙ sym (append-nil c.args.letters.items)

pub loop-report-preserved : goal.loop-report-preserved
loop-report-preserved g c =
    let p = g.W.Scene.placed c.args.world.now in
    let lt = c.loop-report-test.true in let end = c.loop-report.auto.report-index-end in
    sent_next g.A.Actor.meaning p (λ x. get_or c.args.mine.now (p.route x.to) false) c.args.reports.now c.loop-report.report-index c.report-item.result
    c.args.letters.items c.loop-report.letters.items c.gather_report.new.letters.items (omega arith) c.report-item.is c.loop-report.invariant c.in_ok-gather_report.ensures

pub returns : goal.returns
returns g c =
    let p = g.W.Scene.placed c.args.world.now in
    let ge = c.loop-report-test.false in let end = c.loop-report.auto.report-index-end in
    c.loop-report.invariant ∙ ap (λ l. c.args.letters.items ++ filter (λ x. get_or c.args.mine.now (p.route x.to) false) (letters_sent g.A.Actor.meaning p l))
    (take_all c.loop-report.report-index c.args.reports.now (omega arith))
