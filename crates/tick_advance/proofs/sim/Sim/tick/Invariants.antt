use Rattle.std.proofs.Common.{◌≡◌}
use Rattle.sim_base.specs.declared.moment.Ending.{Ending}
use Rattle.tick_advance.specs.Standing.{sim_of}
use Rattle.tick_advance.specs.declared.position.Position.TheVariants as position
use Rattle.tick_advance.proofs.Passing.{Passes, left_in_tick}
use Rattle.tick_advance.proofs.sim.Sim.tick.Given as goal

abbrev pub invariant-loop-ending : goal.invariant-loop-ending
invariant-loop-ending g l = record {
  passes : Passes g.A.Actor.meaning (sim_of g.S.Sieve.keeps l.fn.self) (sim_of g.S.Sieve.keeps l.self);
  ended : (e : Ending) → l.fn.self.position ≡ position.Ended e → l.self ≡ l.fn.self;
}

abbrev pub decreases-loop-ending : goal.decreases-loop-ending
decreases-loop-ending g l = left_in_tick l.self.world.one.parameters.diasca_limit l.self.position
