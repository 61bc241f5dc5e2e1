use Rattle.std.proofs.Common.{arith}
use Rattle.quiet_core.proofs.accounts.free_numbers.Goals as goal

pub overflow_cast-m : goal.overflow_cast-m
overflow_cast-m c = let few = c.requires.few_managers in omega arith
