use Rattle.std.proofs.Common.{◌≡◌, ◌++◌, map, take}
use Rattle.inbox_order.specs.Keyed.{name_of}
use Rattle.inbox_order.proofs.names.push_names.Given as goal

abbrev pub invariant-loop-letter : goal.invariant-loop-letter
invariant-loop-letter l = l.names.items ≡ l.fn.names.items ++ map name_of (take l.letter-index l.letters)
