use Rattle.std.proofs.Common.{ℕ}
use Rattle.tick_advance.specs.Standing.{StandsFor, sim_of}
use Rattle.engine_tests.proofs.Keeping.{keep_all}
use Rattle.engine_tests.proofs.pieces.by_pieces.Given as goal

abbrev pub invariant-loop-piece : goal.invariant-loop-piece
invariant-loop-piece g l = (k : ℕ) × StandsFor g.A.Actor.meaning l.fn.setup k (sim_of keep_all l.sim)
