use Rattle.std.proofs.Common.{◌∙◌, arith}
use Rattle.std.proofs.lemmas.List.Edits.{map_over_more}
use Rattle.sim_model.specs.Births.{without_births}
use Rattle.sim_model.proofs.Lists.{get_or-behind}
use Rattle.sim_model.proofs.Bearing.{creator_borne, creator_fits, creator_numbered}
use Rattle.sim_model.proofs.births.take_all_births.Goals as goal

pub bear-requires : goal.bear-requires
bear-requires g c =
    let rs = c.args.reports.now in
    let i = c.loop-report.report-index in
    let r = c.report-item.result in
    let is = c.report-item.is ∙ get_or-behind without_births rs c.loop-report.reports i r c.loop-report-test.true c.loop-report.invariant.0 in
    let fits = creator_fits rs i r c.loop-report.first _ c.loop-report-test.true is c.loop-report.invariant.1 in
    let births = rw (← c.report-item.is) at c.take_births-states.ensures.births in
    rw (c.into_vec.ensures, births) (omega (arith, fits, c.requires))

pub overflow_add-after : goal.overflow_add-after
overflow_add-after g c =
    let rs = c.args.reports.now in
    let i = c.loop-report.report-index in
    let r = c.report-item.result in
    let is = c.report-item.is ∙ get_or-behind without_births rs c.loop-report.reports i r c.loop-report-test.true c.loop-report.invariant.0 in
    let fits = creator_fits rs i r c.loop-report.first _ c.loop-report-test.true is c.loop-report.invariant.1 in
    let births = rw (← c.report-item.is) at c.take_births-states.ensures.births in
    rw (c.len.ensures, births) (omega (arith, fits, c.requires))

pub loop-report-preserved : goal.loop-report-preserved
loop-report-preserved g c =
    let rs = c.args.reports.now in
    let i = c.loop-report.report-index in
    let r = c.report-item.result in
    let is = c.report-item.is ∙ get_or-behind without_births rs c.loop-report.reports i r c.loop-report-test.true c.loop-report.invariant.0 in
    let births = rw (← c.report-item.is) at c.take_births-states.ensures.births in
    let rest = rw (← c.report-item.is) at c.take_births-states.ensures.rest in
    let borne = rw (c.into_vec.ensures, births, rest) at c.in_ok-bear.ensures in (
      rw rest (map_over_more without_births rs c.loop-report.reports i r c.loop-report-test.true c.loop-report.invariant.0 c.report-item.is),
      rw (c.len.ensures, births) (creator_numbered rs i r c.loop-report.first _ c.loop-report-test.true is c.loop-report.invariant.1),
      rw (c.len.ensures, births)
          (creator_borne g.A.Actor.meaning rs i r c.loop-report.first c.loop-report.born.items c.bear.new.born.items _ c.loop-report-test.true is c.loop-report.invariant.2 borne),
    )
