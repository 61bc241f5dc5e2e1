use Rattle.scenario.proofs.Writing.{writes_more}
use Rattle.scenario.proofs.pieces.write_numbered.Goals as goal

pub returns : goal.returns
returns g c = writes_more g.E.Sink.written g.E.Sink.faults _ _ _ c.write_number.result c.args.label.now _ c.in_ok-write_piece.ensures c.write_number.ensures
