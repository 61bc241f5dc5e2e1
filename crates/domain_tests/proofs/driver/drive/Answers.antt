use Rattle.domain_tests.proofs.Gathering.{can_stand}
use Rattle.domain_tests.proofs.driver.drive.Goals as goal

pub stand_of-requires : goal.stand_of-requires
stand_of-requires g c = can_stand c.pass.new.world c.in-Enters.next (c.in_ok-next.ensures c.in-Enters.next c.in-Enters.is)
