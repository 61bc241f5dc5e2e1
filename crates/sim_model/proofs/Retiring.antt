-- Those who retire ascend with their reports.
use Rattle.std.proofs.Common.{◌<◌, List}
use Rattle.std.specs.List.{AllPairs, filter}
use Rattle.std.proofs.lemmas.List.Kept.{AllPairs-filter}
use Rattle.sim_model.specs.Moment.{retired}
use Rattle.sim_model.specs.Setups.{Ascend}
use Rattle.sim_model.specs.declared.report.Report.{Report}
use Rattle.sim_model.proofs.Ascending.{pairs_map}

pub retired_ascend : {A : Type 0} (rs : List (Report A)) → AllPairs (λ r q. r.id.0 < q.id.0) rs → Ascend (retired rs)
retired_ascend rs h =
    pairs_map (λ a b. a.0 < b.0) (λ r. r.id) (filter (λ r. r.outcome.retire) rs)
    (AllPairs-filter (λ r q. r.id.0 < q.id.0) (λ r. r.outcome.retire) rs h)
