use Rattle.std.proofs.Common.{◌≡◌, take}
use Rattle.std.specs.List.{flat_map}
use Rattle.sim_model.specs.Moment.{sends_of}
use Rattle.domain_tests.proofs.moments.letters_of.Given as goal

abbrev pub invariant-loop-report : goal.invariant-loop-report
invariant-loop-report g l = l.letters.items ≡ flat_map sends_of (take l.report-index l.reports)
