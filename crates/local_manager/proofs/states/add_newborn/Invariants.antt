use Rattle.std.proofs.Common.{◌≡◌, ◌++◌, map, Some}
use Rattle.local_manager.proofs.states.add_newborn.Given as goal

abbrev pub invariant-loop-newborn : goal.invariant-loop-newborn
invariant-loop-newborn g l = l.states.items ≡ l.fn.states.items ++ map (λ b. Some b.state) l.yielded
