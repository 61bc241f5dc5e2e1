use Rattle.std.proofs.Common.{◌≡◌, codes}
use Rattle.std.proofs.lemmas.Result.{err_from_is_err_and}
use Rattle.scenario.proofs.Writing.{broke_first, writes_more}
use Rattle.scenario.proofs.refusal_line.write_twice.Goals as goal

pub returns-in_err-write_piece : goal.returns-in_err-write_piece
returns-in_err-write_piece g c =
    let p = err_from_is_err_and c.from_residual.result c.from_residual.ensures.1 in
    rw p.1 (broke_first g.E.Sink.written g.E.Sink.faults _ _ (codes "name twice ") c.args.name.now c.in_err-write_piece.ensures)

pub returns : goal.returns
returns g c =
    let name : c.as_bytes.result.now ≡ c.args.name.now = c.as_bytes.ensures.bytes in
    writes_more g.E.Sink.written g.E.Sink.faults _ _ _ c.write_piece-2.result (codes "name twice ") c.args.name.now c.in_ok-write_piece.ensures (rw name at c.write_piece-2.ensures)
