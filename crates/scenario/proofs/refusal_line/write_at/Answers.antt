use Rattle.scenario.specs.RefusalLine.{place_text}
use Rattle.scenario.proofs.Writing.{writes_more}
use Rattle.scenario.proofs.refusal_line.write_at.Goals as goal

pub returns : goal.returns
returns g c =
    writes_more g.E.Sink.written g.E.Sink.faults _ _ _ c.write_place.result c.args.label.now (place_text c.args.place.now) c.in_ok-write_piece.ensures c.write_place.ensures
