use Rattle.std.proofs.Common.{◌≡◌}
use Rattle.tick_advance.specs.Standing.{sim_of}
use Rattle.tick_advance.proofs.Passing.{StandsSomewhere, left_in_run}
use Rattle.tick_advance.proofs.running.run_kept.Given as goal

abbrev pub invariant-loop-sim : goal.invariant-loop-sim
invariant-loop-sim g l = record {
  somewhere : StandsSomewhere g.A.Actor.meaning l.fn.setup (sim_of g.S.Sieve.keeps l.sim);
  keeps : g.S.Sieve.keeps l.sim.log.sieve ≡ g.S.Sieve.keeps l.fn.sieve;
}

abbrev pub decreases-loop-sim : goal.decreases-loop-sim
decreases-loop-sim g l = left_in_run l.fn.setup l.sim.position
