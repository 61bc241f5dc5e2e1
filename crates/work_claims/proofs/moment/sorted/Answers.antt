use Rattle.std.proofs.Common.{rules, subst, sym}
use Rattle.std.specs.List.Sorted.{IsNonDecreasingBy}
use Rattle.std.proofs.lemmas.List.Sorted.{IsNonDecreasingBy-from_sort_by_key}
use Rattle.work_claims.proofs.moment.sorted.Goals as goal

pub returns-clause-ascending : goal.returns-clause-ascending
returns-clause-ascending g c =
    subst (λ l. IsNonDecreasingBy (λ r. r.id.0) l) (sym c.of.ensures)
    (IsNonDecreasingBy-from_sort_by_key (λ r. r.id.0) _ c.in_ok-sort_by_key.ensures.sorted (λ a r q k. search rules))
