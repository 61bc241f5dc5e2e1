use Rattle.std.proofs.Common.{◌++◌, codes}
use Rattle.std.proofs.lemmas.Result.{err_from_is_err_and}
use Rattle.scenario.specs.RefusalLine.{refusal_text}
use Rattle.scenario.proofs.Writing.{broke_first, broke_later, wrote_more, writes_more}
use Rattle.scenario.proofs.refusal_line.write_scenario_line.Goals as goal

pub returns-in_err-write_piece : goal.returns-in_err-write_piece
returns-in_err-write_piece g c =
    let p = err_from_is_err_and c.from_residual.result c.from_residual.ensures.1 in
    let text = refusal_text c.args.refusal.now in
    rw p.1 (broke_first g.E.Sink.written g.E.Sink.faults _ _ (codes "scenario: " ++ text) (codes "\n")
    (broke_first g.E.Sink.written g.E.Sink.faults _ _ (codes "scenario: ") text c.in_err-write_piece.ensures))

pub returns-in_err-write_refusal : goal.returns-in_err-write_refusal
returns-in_err-write_refusal g c =
    let p = err_from_is_err_and c.from_residual-in_err-write_refusal.result c.from_residual-in_err-write_refusal.ensures.1 in
    let text = refusal_text c.args.refusal.now in
    rw p.1 (broke_first g.E.Sink.written g.E.Sink.faults _ _ (codes "scenario: " ++ text) (codes "\n")
    (broke_later g.E.Sink.written g.E.Sink.faults _ _ _ (codes "scenario: ") text c.in_ok-write_piece.ensures c.in_err-write_refusal.ensures))

pub returns : goal.returns
returns g c =
    let text = refusal_text c.args.refusal.now in
    let first = wrote_more g.E.Sink.written g.E.Sink.faults _ _ _ (codes "scenario: ") text c.in_ok-write_piece.ensures c.in_ok-write_refusal.ensures in
    writes_more g.E.Sink.written g.E.Sink.faults _ _ _ c.write_piece-2.result (codes "scenario: " ++ text) (codes "\n") first c.write_piece-2.ensures
