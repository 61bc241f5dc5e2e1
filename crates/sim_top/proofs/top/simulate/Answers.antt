use Rattle.std.proofs.Common.{false}
use Rattle.sim_top.proofs.Clauses.{closed, completes, error_line, front_of_answer, input_fails, leaves_input, nothing_written, of_ok, output_fails, refused_exactly, takes_no_more, the_answer, untouched, words_first}
use Rattle.sim_top.specs.Verdicts.{ends}
use Rattle.sim_top.specs.Words.{order_of}
use Rattle.sim_top.proofs.top.simulate.Goals as goal

pub returns : goal.returns
returns g c =
    let v = c.judge-verdict.result in
    let h = c.judge-verdict.ensures in
    let told = c.tell.ensures in
    let order = order_of false c.args.words.now in
    let e = ends g.S.Source.left g.S.Source.faults g.O.Sink.written g.O.Sink.faults c.args.input.now c.judge-verdict.new.input c.args.out.now c.judge-verdict.new.out in
    record {
      judged = (v, c.ran.ensures, h, told);
      words_refused_first = rw c.ran.ensures (words_first e order v h);
      input_fault_by_its_cause = rw c.ran.ensures (input_fails e order v h);
      output_fault_by_its_cause = rw c.ran.ensures (output_fails e order v h);
      scenario_refused_exactly = rw c.ran.ensures (λ o reading bytes is reads_it read. refused_exactly e o v reading bytes (of_ok e order o v h is) reads_it read);
      input_untouched = rw c.ran.ensures (λ o is. leaves_input e o v (of_ok e order o v h is));
      taken_within = rw c.ran.ensures (λ o reading is. takes_no_more e o v reading (of_ok e order o v h is));
      the_answer = rw c.ran.ensures (λ bytes. the_answer e order v bytes h);
      front_of_the_answer = rw c.ran.ensures (λ bytes. front_of_answer e order v bytes h);
      nothing_written = rw c.ran.ensures (nothing_written e order v h);
      error_line = rw c.ran.ensures (error_line e g.E.Sink.written g.E.Sink.faults _ _ order v h told);
      error_sink_untouched = rw c.ran.ensures (untouched e g.E.Sink.written g.E.Sink.faults _ _ v told);
      completeness = rw c.ran.ensures (λ o bytes a is. completes e o v bytes a (of_ok e order o v h is));
      closed_rounds = rw c.ran.ensures (closed e order v h);
    }
