use Rattle.local_manager.specs.Views.{CanEnter}
use Rattle.domain_tests.proofs.driver.drive.Given as goal

abbrev pub invariant-loop-moment : goal.invariant-loop-moment
invariant-loop-moment g l = CanEnter l.world l.at
