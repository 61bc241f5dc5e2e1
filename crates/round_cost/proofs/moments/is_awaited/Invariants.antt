use Rattle.round_cost.specs.Hands.{One}
use Rattle.round_cost.proofs.moments.is_awaited.Given as goal

abbrev pub invariant-loop-m : goal.invariant-loop-m
invariant-loop-m l = One l.round l.hand
