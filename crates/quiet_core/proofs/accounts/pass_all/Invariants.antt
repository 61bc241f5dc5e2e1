use Rattle.std.proofs.Common.{◌≡◌, map, List}
use Rattle.quiet_core.specs.declared.entry.Entry.{Entry}
use Rattle.quiet_core.specs.Entries.{passed}
use Rattle.quiet_core.proofs.Passes.{map_below}
use Rattle.quiet_core.proofs.accounts.pass_all.Given as goal

abbrev pub invariant-loop-m : goal.invariant-loop-m
invariant-loop-m l = map (λ row. row.items) l.rows.items ≡ map_below (λ (row : List Entry). map (passed l.from l.to) row) l.m (map (λ row. row.items) l.initial.rows.items)
