use Rattle.std.proofs.Common.{◌≡◌, arith, slice_index}
use Rattle.std.proofs.lemmas.Grind.{common_steps}
use Rattle.result_store.specs.Text.{row_line}
use Rattle.result_store.proofs.Walk.{all_written, end, later, step, written}
use Rattle.result_store.proofs.run_text.add_series.Goals as goal

pub rows-smaller : goal.rows-smaller
rows-smaller c =
    let next = c.args.chains.now.next.items in
    let is : c.index-at.result.now ≡ slice_index next c.rows.at = grind (arith, common_steps) in
    omega (arith, later c.args.chains.now.rows.now next c.rows.at c.index-at.result.now c.rows.invariant.left c.rows-test.true is c.rows.invariant.chain)

pub rows-preserved : goal.rows-preserved
rows-preserved c =
    let next = c.args.chains.now.next.items in
    let is : c.index-at.result.now ≡ slice_index next c.rows.at = grind (arith, common_steps) in
    let s = step c.args.chains.now.rows.now next c.rows.at c.index-at.result.now _ c.rows.invariant.left c.rows-test.true is c.rows.invariant.chain in
    record {
      left = s.rest;
      chain = s.chain;
      so_far = written (row_line c.args.member.now.name c.args.probe.now) c.rows.text.items c.add_row.new.text.items _ _ c.rows.invariant.left s.rest s.whole c.in_ok-add_row.ensures c.rows.invariant.so_far;
    }

pub returns : goal.returns
returns c =
    all_written (row_line c.args.member.now.name c.args.probe.now) c.rows.text.items _ c.rows.invariant.left
    (end c.args.chains.now.rows.now c.args.chains.now.next.items c.rows.at c.rows.invariant.left c.rows-test.false c.rows.invariant.chain) c.rows.invariant.so_far
