use Rattle.std.proofs.Common.{◌≡◌, take}
use Rattle.sim_model.proofs.cast.copy_cast.Given as goal

abbrev pub invariant-loop-member : goal.invariant-loop-member
invariant-loop-member l = l.copies.items ≡ take l.member-index l.cast
