use Rattle.quiet_tests.specs.Trial.{One}
use Rattle.quiet_tests.proofs.running_round.collect.Given as goal

abbrev pub invariant-loop-to : goal.invariant-loop-to
invariant-loop-to l = One l.round l.hand
