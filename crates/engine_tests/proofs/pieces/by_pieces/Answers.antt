use Rattle.std.proofs.Common.{◌+◌}
use Rattle.engine_tests.proofs.pieces.by_pieces.Goals as goal

pub loop-piece-init : goal.loop-piece-init
loop-piece-init g c = (0, c.in_ok-sim.ensures.stands)

pub loop-piece-preserved : goal.loop-piece-preserved
loop-piece-preserved g c =
    let before = c.loop-piece.invariant in
    let after = c.in_ok-ending.ensures.stands c.args.setup before.0 before.1 in
    (before.0 + after.0, after.1)

pub ends-requires-clause-over : goal.ends-requires-clause-over
ends-requires-clause-over g c =
    let before = c.loop-piece.invariant in
    let over = c.in_ok-ending.ensures.over c.in-Some.ending c.args.setup before.0 c.in-Some.is before.1 in
    λ _ _. over
