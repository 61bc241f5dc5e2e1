use Rattle.std.proofs.Common.{◌≡◌, ◌++◌, ◌-◌, ◌≤◌, length, map, drop}
use Rattle.inbox_order.specs.Keyed.{crowded, name_of}
use Rattle.inbox_order.proofs.names.names_of_crowded.Given as goal

abbrev pub invariant-loop-start : goal.invariant-loop-start
invariant-loop-start l = (l.start ≤ length l.letters) × (l.names.items ++ map name_of (crowded (drop l.start l.letters)) ≡ map name_of (crowded l.letters))

abbrev pub decreases-loop-start : goal.decreases-loop-start
decreases-loop-start l = length l.letters - l.start
