use Rattle.std.proofs.Common.{codes}
use Rattle.sim_top.specs.Lines.{refusal_line, too_long_line, words_line}
use Rattle.sim_top.proofs.Trying.{tried}
use Rattle.sim_top.proofs.verdict.Verdict.tell.Goals as goal

pub returns-in-Words : goal.returns-in-Words
returns-in-Words g c = rw c.in-Words.is (tried g.E.Sink.written g.E.Sink.faults _ _ c.write_words_line.result (words_line c.in-Words.refusal) c.write_words_line.ensures)

pub returns-in-Refused : goal.returns-in-Refused
returns-in-Refused g c = rw c.in-Refused.is (tried g.E.Sink.written g.E.Sink.faults _ _ c.write_refusal_line.result (refusal_line c.in-Refused.refusal) c.write_refusal_line.ensures)

pub returns-in-TooLong : goal.returns-in-TooLong
returns-in-TooLong g c = rw c.in-TooLong.is (tried g.E.Sink.written g.E.Sink.faults _ _ c.write_too_long_line.result (too_long_line c.in-TooLong.reading) c.write_too_long_line.ensures)

pub returns-in-InputFault : goal.returns-in-InputFault
returns-in-InputFault g c = rw c.in-InputFault.is (tried g.E.Sink.written g.E.Sink.faults _ _ c.write_piece.result (codes "input fault\n") c.write_piece.ensures)

pub returns-in-OutputFault : goal.returns-in-OutputFault
returns-in-OutputFault g c = rw c.in-OutputFault.is (tried g.E.Sink.written g.E.Sink.faults _ _ c.write_piece-in-OutputFault.result (codes "output fault\n") c.write_piece-in-OutputFault.ensures)

pub returns-in-NoMemory : goal.returns-in-NoMemory
returns-in-NoMemory g c = rw c.in-NoMemory.is (tried g.E.Sink.written g.E.Sink.faults _ _ c.write_piece-in-NoMemory.result (codes "no memory\n") c.write_piece-in-NoMemory.ensures)
