use Rattle.std.proofs.Common.{◌≡◌, take}
use Rattle.sim_model.proofs.setup.copy_starts.Given as goal

abbrev pub invariant-loop-start : goal.invariant-loop-start
invariant-loop-start g l = l.copies.items ≡ take l.start-index l.starts
