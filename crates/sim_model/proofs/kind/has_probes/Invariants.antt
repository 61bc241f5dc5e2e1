use Rattle.std.proofs.Common.{◌≡◌, take}
use Rattle.sim_model.proofs.kind.has_probes.Given as goal

abbrev pub invariant-loop-n : goal.invariant-loop-n
invariant-loop-n g l = take l.n l.names ≡ take l.n (g.A.Actor.meaning.probes l.state)
