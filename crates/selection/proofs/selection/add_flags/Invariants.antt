use Rattle.std.proofs.Common.{◌≡◌, ◌++◌, take}
use Rattle.selection.specs.Selecting.{flags_of}
use Rattle.selection.proofs.selection.add_flags.Given as goal

abbrev pub invariant-loop-n : goal.invariant-loop-n
invariant-loop-n g l = l.flags.items ≡ l.fn.flags.items ++ flags_of l.rules l.start.name (take l.n (g.A.Actor.meaning.probes l.start.state))
