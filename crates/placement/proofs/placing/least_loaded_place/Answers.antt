use Rattle.placement.proofs.Least.{least_loaded-is}
use Rattle.placement.proofs.placing.least_loaded_place.Goals as goal

pub returns-clause-place : goal.returns-clause-place
returns-clause-place c = least_loaded-is _ _ _ c.loop-place.invariant c.loop-place-test.false
