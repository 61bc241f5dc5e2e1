use Rattle.std.proofs.Common.{◌≡◌, ◌-◌, ◌++◌, List, length}
use Rattle.std.specs.List.{flat_map}
use Rattle.sim_base.specs.declared.moment.Row.{Row}
use Rattle.result_store.specs.Chains.{IsChain}
use Rattle.result_store.specs.Series.{rows_of_series}
use Rattle.result_store.specs.Text.{row_line}
use Rattle.result_store.proofs.run_text.add_series.Given as goal

-- the rows that are left
abbrev pub invariant-rows : goal.invariant-rows
invariant-rows l = record {
  left : List Row;
  chain : IsChain l.chains.rows.now l.chains.next.items l.at left;
  so_far : l.text.items ++ flat_map (row_line l.member.name l.probe) left ≡ l.fn.text.items ++ flat_map (row_line l.member.name l.probe) (rows_of_series l.member.id.0 l.n l.chains.rows.now);
}

abbrev pub decreases-rows : goal.decreases-rows
decreases-rows l = length l.chains.rows.now - l.at
