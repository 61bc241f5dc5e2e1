use Rattle.std.proofs.Common.{length, ap, arith}
use Rattle.work_claims.proofs.Closing.{few_at}
use Rattle.work_claims.proofs.moment.count_scheduled.Goals as goal

pub overflow_cast-counts : goal.overflow_cast-counts
overflow_cast-counts g c =
    let few = few_at (g.W.Scene.placed c.args.world.now) (c.managers-m-end.ensures.placed c.requires.entered) c.loop-m.m in
    let same = ap (λ l. length l) c.scheduled.ensures in omega arith
