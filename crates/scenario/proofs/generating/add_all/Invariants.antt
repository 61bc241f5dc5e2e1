use Rattle.std.proofs.Common.{◌≡◌, ◌++◌}
use Rattle.scenario.proofs.generating.add_all.Given as goal

abbrev pub invariant-loop-start : goal.invariant-loop-start
invariant-loop-start l = l.starts.items ++ l.start-iterator.rest.items ≡ l.initial.starts.items ++ l.fn.more.items
