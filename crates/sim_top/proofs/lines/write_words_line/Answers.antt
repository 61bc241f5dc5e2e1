use Rattle.std.proofs.Common.{◌++◌, codes}
use Rattle.std.specs.Fmt.{decimal}
use Rattle.std.proofs.lemmas.Result.{err_from_is_err_and}
use Rattle.scenario.proofs.Writing.{broke_first, broke_later, wrote_more, writes_more}
use Rattle.sim_top.specs.Lines.{cause_text}
use Rattle.sim_top.proofs.lines.write_words_line.Goals as goal

pub returns-in_err-write_numbered : goal.returns-in_err-write_numbered
returns-in_err-write_numbered g c =
    let p = err_from_is_err_and c.from_residual.result c.from_residual.ensures.1 in
    let start = codes "words: " ++ decimal c.args.refusal.place in
    rw p.1 (broke_first g.E.Sink.written g.E.Sink.faults _ _ (start ++ codes ": " ++ cause_text c.args.refusal.cause) (codes "\n")
    (broke_first g.E.Sink.written g.E.Sink.faults _ _ (start ++ codes ": ") (cause_text c.args.refusal.cause)
    (broke_first g.E.Sink.written g.E.Sink.faults _ _ start (codes ": ") c.in_err-write_numbered.ensures)))

pub returns-in_err-write_piece : goal.returns-in_err-write_piece
returns-in_err-write_piece g c =
    let p = err_from_is_err_and c.from_residual-in_err-write_piece.result c.from_residual-in_err-write_piece.ensures.1 in
    let start = codes "words: " ++ decimal c.args.refusal.place in
    rw p.1 (broke_first g.E.Sink.written g.E.Sink.faults _ _ (start ++ codes ": " ++ cause_text c.args.refusal.cause) (codes "\n")
    (broke_first g.E.Sink.written g.E.Sink.faults _ _ (start ++ codes ": ") (cause_text c.args.refusal.cause)
    (broke_later g.E.Sink.written g.E.Sink.faults _ _ _ start (codes ": ") c.in_ok-write_numbered.ensures c.in_err-write_piece.ensures)))

pub returns-in_err-write_piece-2 : goal.returns-in_err-write_piece-2
returns-in_err-write_piece-2 g c =
    let p = err_from_is_err_and c.from_residual-in_err-write_piece-2.result c.from_residual-in_err-write_piece-2.ensures.1 in
    let start = codes "words: " ++ decimal c.args.refusal.place in
    let first = wrote_more g.E.Sink.written g.E.Sink.faults _ _ _ start (codes ": ") c.in_ok-write_numbered.ensures c.in_ok-write_piece.ensures in
    let cause = c.cause_text.ensures in
    rw p.1 (broke_first g.E.Sink.written g.E.Sink.faults _ _ (start ++ codes ": " ++ cause_text c.args.refusal.cause) (codes "\n")
    (broke_later g.E.Sink.written g.E.Sink.faults _ _ _ (start ++ codes ": ") (cause_text c.args.refusal.cause) first (rw cause at c.in_err-write_piece-2.ensures)))

pub returns : goal.returns
returns g c =
    let start = codes "words: " ++ decimal c.args.refusal.place in
    let first = wrote_more g.E.Sink.written g.E.Sink.faults _ _ _ start (codes ": ") c.in_ok-write_numbered.ensures c.in_ok-write_piece.ensures in
    let cause = c.cause_text.ensures in
    let second = wrote_more g.E.Sink.written g.E.Sink.faults _ _ _ (start ++ codes ": ") (cause_text c.args.refusal.cause) first (rw cause at c.in_ok-write_piece-2.ensures) in
    writes_more g.E.Sink.written g.E.Sink.faults _ _ _ c.write_piece-3.result (start ++ codes ": " ++ cause_text c.args.refusal.cause) (codes "\n") second c.write_piece-3.ensures
