use Rattle.std.proofs.Common.{◌<◌, ◌≤◌, ◌∙◌, List, length, map, arith}
use lib.ListN.{length-map}
use Rattle.quiet_core.specs.declared.entry.Entry.{Entry}
use Rattle.quiet_core.specs.Entries.{passed}
use Rattle.quiet_core.proofs.Passes.{all_passed, row_passed}
use Rattle.quiet_core.proofs.accounts.pass_all.Goals as goal

pub loop-m-preserved : goal.loop-m-preserved
loop-m-preserved c =
    let row = c.index_mut-row.result.now in
    let lt : c.loop-m.m < length c.args.rows.now.items = omega arith in
    row_passed (λ row. row.items) (λ (row : List Entry). map (passed c.args.from c.args.to) row) c.args.rows.now.items c.loop-m.rows.items c.loop-m.m row c.pass_row.new.row
    c.loop-m.invariant lt c.index_mut-row.ensures.value c.pass_row.ensures

pub returns : goal.returns
returns c =
    let n = length-map c.args.rows.now.items (λ row. row.items) in
    let all : length (map (λ row. row.items) c.args.rows.now.items) ≤ c.loop-m.m = omega arith in
    c.loop-m.invariant ∙ all_passed (λ (row : List Entry). map (passed c.args.from c.args.to) row) c.loop-m.m (map (λ row. row.items) c.args.rows.now.items) all
