use Rattle.std.proofs.Common.{◌≡◌, ◌++◌, map}
use Rattle.sim_model.specs.Births.{births_from}
use Rattle.sim_model.proofs.births.bear.Given as goal

abbrev pub invariant-loop-index : goal.invariant-loop-index
invariant-loop-index g l = l.born.items ≡ l.fn.born.items ++ births_from g.A.Actor.meaning l.creator 0 l.first (map (λ p. p.1) l.yielded)
