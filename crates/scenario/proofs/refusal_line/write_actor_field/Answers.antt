use Rattle.std.proofs.Common.{◌≡◌, ◌==◌, ◌∙◌, sym, codes, length, map, true, false}
use Rattle.std.proofs.lemmas.Result.{err_from_is_err_and}
use Rattle.scenario.specs.RefusalLine.{shown}
use Rattle.scenario.proofs.Places.{no_field, some_field}
use Rattle.scenario.proofs.Writing.{broke_first, writes_more, wrote_nothing}
use Rattle.scenario.proofs.refusal_line.write_actor_field.Goals as goal

pub returns-then-is_empty : goal.returns-then-is_empty
returns-then-is_empty g c =
    let none : (length c.as_bytes.result.now == 0) ≡ true = sym c.is_empty.ensures ∙ c.if-is_empty.true in
    rw (no_field c.args.field.now (rw c.as_bytes.ensures.bytes at none)) (wrote_nothing g.E.Sink.written g.E.Sink.faults c.args.sink.now)

pub returns-in_err-write_piece : goal.returns-in_err-write_piece
returns-in_err-write_piece g c =
    let some : (length c.as_bytes.result.now == 0) ≡ false = sym c.is_empty.ensures ∙ c.if-is_empty.false in
    let p = err_from_is_err_and c.from_residual.result c.from_residual.ensures.1 in
    rw (p.1, some_field c.args.field.now (rw c.as_bytes.ensures.bytes at some))
    (broke_first g.E.Sink.written g.E.Sink.faults _ _ (codes " ") (map shown c.args.field.now) c.in_err-write_piece.ensures)

pub returns : goal.returns
returns g c =
    let some : (length c.as_bytes.result.now == 0) ≡ false = sym c.is_empty.ensures ∙ c.if-is_empty.false in
    rw (some_field c.args.field.now (rw c.as_bytes.ensures.bytes at some))
    (writes_more g.E.Sink.written g.E.Sink.faults _ _ _ c.write_field.result (codes " ") (map shown c.args.field.now) c.in_ok-write_piece.ensures c.write_field.ensures)
