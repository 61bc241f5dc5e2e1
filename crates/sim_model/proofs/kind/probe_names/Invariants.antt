use Rattle.std.proofs.Common.{◌≡◌, take}
use Rattle.sim_model.proofs.kind.probe_names.Given as goal

abbrev pub invariant-loop-n : goal.invariant-loop-n
invariant-loop-n g l = l.names.items ≡ take l.n (g.A.Actor.meaning.probes l.state)
