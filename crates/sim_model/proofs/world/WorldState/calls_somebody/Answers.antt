use Rattle.std.proofs.Common.{arith, length, nat_lt}
use Rattle.std.proofs.lemmas.Bool.Decides.{nat_tests}
use Rattle.sim_model.proofs.Called.{by_first, by_second, somebody}
use Rattle.sim_model.proofs.world.WorldState.calls_somebody.Goals as goal

pub returns-then-len-gt0 : goal.returns-then-len-gt0
returns-then-len-gt0 g c =
    rw c.len.ensures (by_first (nat_lt 0 (length c.args.self.now.newborn)) _ _ (somebody c.args.self.now.newborn c.args.self.now.letters)
    (grind (arith, nat_tests, c.if-len-gt0.true, c.len.ensures)))

pub returns-else-len-gt0 : goal.returns-else-len-gt0
returns-else-len-gt0 g c =
    rw c.len-else-len-gt0.ensures
    (by_second (nat_lt 0 (length c.args.self.now.newborn)) _ _ (somebody c.args.self.now.newborn c.args.self.now.letters)
    (grind (arith, nat_tests, c.if-len-gt0.false, c.len.ensures)))
