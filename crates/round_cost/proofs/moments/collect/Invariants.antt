use Rattle.round_cost.specs.Hands.{One}
use Rattle.round_cost.proofs.moments.collect.Given as goal

abbrev pub invariant-loop-to : goal.invariant-loop-to
invariant-loop-to l = One l.round l.hand
