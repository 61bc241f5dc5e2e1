use Rattle.std.proofs.Common.{◌≡◌, ◌+◌, drop, ◌++◌}
use Rattle.sim_model.specs.Cast.{members_from}
use Rattle.sim_model.proofs.cast.opening_cast.Given as goal

abbrev pub invariant-loop-start : goal.invariant-loop-start
invariant-loop-start g l =
    (l.next ≡ l.start-index + 1)
    × (l.cast.items ++ members_from g.A.Actor.meaning l.next (drop l.start-index l.starts) ≡ members_from g.A.Actor.meaning 1 l.starts)
