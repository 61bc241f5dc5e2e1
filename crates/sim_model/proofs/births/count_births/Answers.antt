use Rattle.std.proofs.Common.{◌∙◌, ◌+◌, ◌≤◌, sym, arith}
use Rattle.sim_model.proofs.Counting.{passes}
use Rattle.sim_model.proofs.births.count_births.Goals as goal

pub loop-report-preserved : goal.loop-report-preserved
loop-report-preserved g c =
    let none = rw c.len-births.ensures at (sym c.fault_among.ensures ∙ c.in_default.is) in
    let fits : c.loop-report.room ≤ c.args.max_actors + 1 = omega (arith, c.loop-report.invariant.0) in
    let one = passes g.A.Actor.meaning c.args.max_actors c.loop-report.room c.args.at c.args.reports.now c.loop-report.report-index
    c.report-item.result c.loop-report-test.true c.report-item.is fits none in
    rw c.len-births.ensures (omega (arith, c.loop-report.invariant.0), one.fault ∙ c.loop-report.invariant.1, one.next ∙ c.loop-report.invariant.2)
