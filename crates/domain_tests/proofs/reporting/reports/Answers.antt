use Rattle.std.proofs.Common.{◌≡◌, ◌+◌, ◌++◌, ◌∷◌, [], ℕ, List, cond, length, arith, refl, sym, ap, ◌∙◌}
use Rattle.std.proofs.lemmas.List.Elements.{filter_map-append}
use Rattle.std.specs.List.{filter_map}
use Rattle.sim_base.specs.declared.ids.ActorId.{ActorId}
use Rattle.sim_model.specs.Moment.{is_among, report_of}
use Rattle.sim_model.specs.declared.report.Report.{Report}
use Rattle.domain_tests.proofs.Gathering.{below, below_first, below_last, below_more, entered_stands, reports_ascend}
use Rattle.domain_tests.proofs.reporting.reports.Goals as goal

pub loop-n-init : goal.loop-n-init
loop-n-init g c =
    let w = c.args.world.now in
    let whole = c.managers-managers.ensures.whole (entered_stands w.phase c.requires) in
    rw (c.new-all.ensures.items, below_first w.one.states w.one.scheduled whole.scheduled.live) refl

pub loop-n-preserved : goal.loop-n-preserved
loop-n-preserved g c =
    let w = c.args.world.now in
    let whole = c.managers-managers.ensures.whole (entered_stands w.phase c.requires) in
    let f = report_of g.A.Actor.meaning w.one w.moment in
    let n = c.loop-n.n in
    let more : List ActorId = cond (is_among w.one.scheduled (record { 0 = n })) (record { 0 = n } ∷ []) [] in
    c.in_ok-add_report.ensures
    ∙ ap (λ (l : List (Report g.row.A.Denot)). l ++ filter_map f more) c.loop-n.invariant
    ∙ sym (filter_map-append f (below n w.one.scheduled) more)
    ∙ ap (filter_map f) (sym (below_more n w.one.scheduled whole.scheduled.ascend))

pub returns-clause-reports : goal.returns-clause-reports
returns-clause-reports g c =
    let w = c.args.world.now in
    let whole = c.managers-managers.ensures.whole (entered_stands w.phase c.requires) in
    let f = report_of g.A.Actor.meaning w.one w.moment in
    let last : c.loop-n.n ≡ length w.one.states + 1 = omega (arith, c.loop-n-test.false, c.loop-n.auto.n-end, c.next_id-n-end.ensures.id) in
    c.loop-n.invariant ∙ ap (λ (k : ℕ). filter_map f (below k w.one.scheduled)) last
    ∙ ap (filter_map f) (below_last w.one.states w.one.scheduled whole.scheduled.live)

pub returns-clause-ascending : goal.returns-clause-ascending
returns-clause-ascending g c = reports_ascend g.A.Actor.meaning c.args.world.now
    (c.managers-managers.ensures.whole (entered_stands c.args.world.now.phase c.requires))
