use Rattle.std.proofs.Common.{◌≡◌, take}
use Rattle.std.specs.List.{fold}
use Rattle.sim_model.specs.Moment.{ask_of}
use Rattle.sim_model.proofs.closing.ask_all.Given as goal

abbrev pub invariant-loop-report : goal.invariant-loop-report
invariant-loop-report g l = l.agenda ≡ fold ask_of l.fn.agenda (take l.report-index l.reports)
