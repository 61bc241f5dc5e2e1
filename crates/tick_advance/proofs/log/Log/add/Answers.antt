use Rattle.std.proofs.Common.{◌≡◌, ◌∙◌, ◌++◌, ◌+◌, ◌<◌, [], ◌∷◌, get_or, take, ap, refl, sym, subst, arith}
use Rattle.std.specs.List.{flat_map}
use Rattle.std.proofs.lemmas.List.{append-nil, flat_map_more, get_or_read, take_more}
use Rattle.sim_model.specs.Moment.{rows_of}
use Rattle.tick_advance.specs.Log.{EndsBelow, HasRows, log_of}
use Rattle.tick_advance.proofs.Rows.{before_below, below_ends, below_up, ends_later}
use Rattle.tick_advance.proofs.log.Log.add.Goals as goal

pub loop-report-init : goal.loop-report-init
loop-report-init g c = record {
  rows = λ rows h. subst (HasRows (log_of g.S.Sieve.keeps c.args.self.now)) (sym (append-nil rows)) h;
  next = λ k d low high. before_below (log_of g.S.Sieve.keeps c.args.self.now) c.args.at (get_or c.args.reports.now k d).id.0 c.requires.later;
  later = λ next later. ends_later (log_of g.S.Sieve.keeps c.args.self.now) c.args.at next later c.requires.later;
  managers = refl;
  given = refl;
  keeps = refl;
}

pub add_report-requires-clause-later : goal.add_report-requires-clause-later
add_report-requires-clause-later g c =
    let report = c.report-item.result in
    subst (λ r. EndsBelow (log_of g.S.Sieve.keeps c.loop-report.self) c.args.at r.id.0) (sym c.report-item.is) (c.loop-report.invariant.next c.loop-report.report-index report (omega arith) (omega arith))

-- what shows no sample adds no row
pub loop-report-preserved-then-is_empty : goal.loop-report-preserved-then-is_empty
loop-report-preserved-then-is_empty g c =
    let i = c.loop-report.report-index in
    let report = c.report-item.result in
    let reports = c.args.reports.now in
    let before = log_of g.S.Sieve.keeps c.loop-report.self in
    let rows_by = rows_of c.args.at in
    let empty : report.outcome.samples ≡ [] = c.is_empty.ensures.0 c.if-is_empty.true in
    let none : rows_by report ≡ [] = ap (λ samples. rows_by (record report { outcome = record report.outcome { samples = samples } })) empty in
    record {
      rows = λ rows h.
          let more : take (i + 1) reports ≡ take i reports ++ report ∷ [] = take_more reports i report (omega arith) ∙ ap (λ r. take i reports ++ r ∷ []) (sym c.report-item.is) in
          subst (HasRows before)
          (sym (append-nil (rows ++ flat_map rows_by (take i reports)))
          ∙ ap (λ added. (rows ++ flat_map rows_by (take i reports)) ++ added) (sym none)
          ∙ flat_map_more rows_by rows (take i reports) report
          ∙ ap (λ rs. rows ++ flat_map rows_by rs) (sym more))
          (c.loop-report.invariant.rows rows h);
      next = λ k d low high. c.loop-report.invariant.next k d (omega arith) high;
      later = c.loop-report.invariant.later;
      managers = c.loop-report.invariant.managers;
      given = c.loop-report.invariant.given;
      keeps = c.loop-report.invariant.keeps;
    }

pub loop-report-preserved : goal.loop-report-preserved
loop-report-preserved g c =
    let i = c.loop-report.report-index in
    let report = c.report-item.result in
    let reports = c.args.reports.now in
    let after = log_of g.S.Sieve.keeps c.add_report.new.self in
    record {
      rows = λ rows h.
          let more : take (i + 1) reports ≡ take i reports ++ report ∷ [] = take_more reports i report (omega arith) ∙ ap (λ r. take i reports ++ r ∷ []) (sym c.report-item.is) in
          subst (HasRows after)
          (flat_map_more (rows_of c.args.at) rows (take i reports) report ∙ ap (λ rs. rows ++ flat_map (rows_of c.args.at) rs) (sym more))
          (c.in_ok-add_report.ensures.rows (rows ++ flat_map (rows_of c.args.at) (take i reports)) (c.loop-report.invariant.rows rows h));
      next = λ k d low high.
          let here : report ≡ get_or reports i d = get_or_read reports i report (omega arith) c.report-item.is d in
          let rises : (get_or reports i d).id.0 < (get_or reports k d).id.0 = c.requires.ascending i k d (omega arith) high in
          below_up after c.args.at (report.id.0 + 1) (get_or reports k d).id.0 (omega (arith, rises, ap (λ r. r.id.0) here)) c.in_ok-add_report.ensures.later;
      later = λ next later. below_ends after c.args.at next (report.id.0 + 1) later c.in_ok-add_report.ensures.later;
      managers = c.in_ok-add_report.ensures.managers ∙ c.loop-report.invariant.managers;
      given = c.in_ok-add_report.ensures.given ∙ c.loop-report.invariant.given;
      keeps = c.in_ok-add_report.ensures.keeps ∙ c.loop-report.invariant.keeps;
    }
