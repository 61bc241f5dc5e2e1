use Rattle.std.proofs.Common.{◌≡◌, ◌++◌, map, take}
use Rattle.sim_model.specs.Births.{member_born}
use Rattle.sim_model.proofs.cast.add_members.Given as goal

abbrev pub invariant-loop-newborn : goal.invariant-loop-newborn
invariant-loop-newborn g l = l.cast.items ≡ l.fn.cast.items ++ map (member_born g.A.Actor.meaning) (take l.newborn-index l.born)
