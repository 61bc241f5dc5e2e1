use Rattle.placement.proofs.Least.{IsLeast}
use Rattle.placement.proofs.placing.least_loaded_place.Given as goal

abbrev pub invariant-loop-place : goal.invariant-loop-place
invariant-loop-place l = IsLeast l.loads l.place l.best
