use Rattle.std.proofs.Common.{rules, ◌≡◌, sym, subst}
use Rattle.std.specs.List.{IsAllAdjacentAnswer}
use Rattle.std.specs.Ordering.{is_le, nat_cmp}
use Rattle.std.proofs.lemmas.Fn.{always_returns_same}
use Rattle.std.proofs.lemmas.List.Sorted.{IsNonDecreasingBy-from_all_adjacent}
use Rattle.std.proofs.lemmas.Map.Keys.{le_from_is_le}
use Rattle.sim_model.specs.declared.report.Report.{Report}
use Rattle.work_claims.proofs.moment.ascends.Goals as goal

pub returns : goal.returns
returns g c ascends =
    let rs = c.args.reports.now in
    let tested = c.is_sorted_by_key.ensures.cases (λ r. r.id.0) (always_returns_same _ (λ a n. n ≡ a.0.now.id.0) _ (λ a n q k. search rules)) in
    let adjacent = subst (λ b. IsAllAdjacentAnswer (λ (x y : Report g.row.A.Denot) b. b ≡ is_le (nat_cmp x.id.0 y.id.0)) rs b) ascends tested in
    IsNonDecreasingBy-from_all_adjacent (λ r. r.id.0) rs (λ k d lt. le_from_is_le _ _ (sym (adjacent k d lt)))
