use Rattle.std.proofs.Common.{ap, arith}
use Rattle.quiet_core.specs.Step.{change}
use Rattle.quiet_core.proofs.round_core.changed.Goals as goal

pub overflow_add-result : goal.overflow_add-result
overflow_add-result c = let l = c.requires.up 1 (ap change c.in-Claim.is) in omega arith

pub overflow_add-result-in-Raise : goal.overflow_add-result-in-Raise
overflow_add-result-in-Raise c = let l = c.requires.up c.in-Raise.n (ap change c.in-Raise.is) in omega arith

pub overflow_add-result-in-Post : goal.overflow_add-result-in-Post
overflow_add-result-in-Post c = let l = c.requires.up c.in-Post.n (ap change c.in-Post.is) in omega arith

pub overflow_sub-result : goal.overflow_sub-result
overflow_sub-result c = c.requires.down c.in-Ack.n (ap change c.in-Ack.is)

pub overflow_sub-result-in-Done : goal.overflow_sub-result-in-Done
overflow_sub-result-in-Done c = c.requires.down 1 (ap change c.in-Done.is)

pub overflow_sub-result-in-Climb : goal.overflow_sub-result-in-Climb
overflow_sub-result-in-Climb c = c.requires.down 1 (ap change c.in-Climb.is)
