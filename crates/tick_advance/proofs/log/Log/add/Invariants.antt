use Rattle.std.proofs.Common.{◌≡◌, ◌++◌, ◌<◌, ◌≤◌, ℕ, List, length, get_or, take}
use Rattle.std.specs.List.{flat_map}
use Rattle.sim_base.specs.declared.moment.Moment.{Moment}
use Rattle.sim_base.specs.declared.moment.Row.{Row}
use Rattle.sim_model.specs.Moment.{rows_of}
use Rattle.sim_model.specs.Whole.{IsEarlier}
use Rattle.sim_model.specs.declared.report.Report.{Report}
use Rattle.tick_advance.specs.Log.{EndsBefore, EndsBelow, HasRows, log_of}
use Rattle.tick_advance.proofs.log.Log.add.Given as goal

abbrev pub invariant-loop-report : goal.invariant-loop-report
invariant-loop-report g l = record {
  rows : (rows : List Row) → HasRows (log_of g.S.Sieve.keeps l.initial.self) rows → HasRows (log_of g.S.Sieve.keeps l.self) (rows ++ flat_map (rows_of l.at) (take l.report-index l.reports));
  next : (k : ℕ) (d : Report g.row.A.Denot) → l.report-index ≤ k → k < length l.reports → EndsBelow (log_of g.S.Sieve.keeps l.self) l.at (get_or l.reports k d).id.0;
  later : (next : Moment) → IsEarlier l.at next → EndsBefore (log_of g.S.Sieve.keeps l.self) next;
  managers : length l.self.buffers ≡ length l.initial.self.buffers;
  given : l.self.given ≡ l.initial.self.given;
  keeps : g.S.Sieve.keeps l.self.sieve ≡ g.S.Sieve.keeps l.initial.self.sieve;
}
