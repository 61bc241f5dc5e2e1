use Rattle.std.proofs.Common.{◌≡◌, map, take}
use Rattle.quiet_core.specs.Entries.{free_table}
use Rattle.quiet_core.proofs.accounts.free_numbers.Given as goal

abbrev pub invariant-loop-m : goal.invariant-loop-m
invariant-loop-m l = map (λ row. row.items) l.numbers.items ≡ free_table (take l.m l.frame.sched)
