use Rattle.std.proofs.Common.{◌≡◌, take}
use Rattle.std.specs.List.{fold}
use Rattle.soda_model.specs.Depots.{hear}
use Rattle.soda_model.proofs.depot.count_births.Given as goal

abbrev pub invariant-loop-letter : goal.invariant-loop-letter
invariant-loop-letter l = l.depot ≡ fold hear l.fn.depot (take l.letter-index l.inbox)
