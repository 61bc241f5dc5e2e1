use Rattle.std.proofs.Common.{◌≡◌, take}
use Rattle.std.specs.List.{fold}
use Rattle.soda_model.specs.Machines.{serve}
use Rattle.soda_model.proofs.machine.serve_all.Given as goal

abbrev pub invariant-loop-letter : goal.invariant-loop-letter
invariant-loop-letter l = l.trade ≡ fold serve l.fn.trade (take l.letter-index l.inbox)
