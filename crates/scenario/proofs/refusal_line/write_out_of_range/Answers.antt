use Rattle.std.proofs.Common.{◌++◌, codes}
use Rattle.std.proofs.Math.Facts.{to_z-of_z}
use Rattle.std.specs.Fmt.{signed_decimal}
use Rattle.std.proofs.lemmas.Result.{err_from_is_err_and}
use Rattle.scenario.specs.RefusalLine.{place_text}
use Rattle.scenario.proofs.Writing.{broke_first, broke_later, wrote_more, writes_more}
use Rattle.scenario.proofs.refusal_line.write_out_of_range.Goals as goal

pub returns-in_err-write_at : goal.returns-in_err-write_at
returns-in_err-write_at g c =
    let p = err_from_is_err_and c.from_residual.result c.from_residual.ensures.1 in
    let start = codes "out of range " ++ place_text c.args.place.now in
    rw p.1 (broke_first g.E.Sink.written g.E.Sink.faults _ _ (start ++ codes " ") (signed_decimal c.args.n)
    (broke_first g.E.Sink.written g.E.Sink.faults _ _ start (codes " ") c.in_err-write_at.ensures))

pub returns-in_err-write_piece : goal.returns-in_err-write_piece
returns-in_err-write_piece g c =
    let p = err_from_is_err_and c.from_residual-in_err-write_piece.result c.from_residual-in_err-write_piece.ensures.1 in
    let start = codes "out of range " ++ place_text c.args.place.now in
    rw p.1 (broke_first g.E.Sink.written g.E.Sink.faults _ _ (start ++ codes " ") (signed_decimal c.args.n)
    (broke_later g.E.Sink.written g.E.Sink.faults _ _ _ start (codes " ") c.in_ok-write_at.ensures c.in_err-write_piece.ensures))

pub returns : goal.returns
returns g c =
    let start = codes "out of range " ++ place_text c.args.place.now in
    let first = wrote_more g.E.Sink.written g.E.Sink.faults _ _ _ start (codes " ") c.in_ok-write_at.ensures c.in_ok-write_piece.ensures in
    writes_more g.E.Sink.written g.E.Sink.faults _ _ _ c.write_signed.result (start ++ codes " ") (signed_decimal c.args.n) first (rw (to_z-of_z c.ranges.n) at c.write_signed.ensures)
