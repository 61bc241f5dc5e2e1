use Rattle.std.proofs.Common.{◌≡◌, get_or, min}
use Rattle.quiet_core.specs.Rows.{below}
use Rattle.quiescence.proofs.ended.Ended.working.Given as goal

abbrev pub invariant-loop-node : goal.invariant-loop-node
invariant-loop-node l = l.count ≡ below (λ c. min (get_or l.self.words.items c 0) 1) l.node
