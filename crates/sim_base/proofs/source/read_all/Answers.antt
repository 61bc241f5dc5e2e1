use Rattle.std.proofs.Common.{arith}
use Rattle.std.proofs.KnownBytes.{Consumes-trans}
use Rattle.std.proofs.lemmas.Grind.{common_steps}
use Rattle.sim_base.proofs.source.read_all.Goals as goal

pub returns-then-is_err-clause-memory_within : goal.returns-then-is_err-clause-memory_within
returns-then-is_err-clause-memory_within g c _ =
    record {
      taken = _;
      consumes = Consumes-trans _ _ _ _ _ c.loop-piece.invariant.1 c.in-Bytes.ensures.bytes.0;
      within = grind (arith, common_steps, c.in-Bytes.ensures);
    }
