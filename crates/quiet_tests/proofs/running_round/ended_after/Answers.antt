use Rattle.std.proofs.Common.{rules}
use Rattle.quiet_tests.specs.Trial.{AtSixteen}
use Rattle.quiet_tests.proofs.running_round.ended_after.Goals as goal

pub finish_two-requires-2-clause-y : goal.finish_two-requires-2-clause-y
finish_two-requires-2-clause-y c =
    let sixteen : AtSixteen c.in_ok-round.round c.to_sixteen.new.x c.to_sixteen.new.y = c.if-not-to_sixteen.ensures (search rules) in sixteen.y_one
