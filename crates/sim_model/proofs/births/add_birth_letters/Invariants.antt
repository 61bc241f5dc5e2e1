use Rattle.std.proofs.Common.{◌≡◌, ◌++◌, map, take}
use Rattle.sim_model.specs.Births.{birth_letter}
use Rattle.sim_model.proofs.births.add_birth_letters.Given as goal

abbrev pub invariant-loop-newborn : goal.invariant-loop-newborn
invariant-loop-newborn g l = l.letters.items ≡ l.fn.letters.items ++ map birth_letter (take l.newborn-index l.born)
