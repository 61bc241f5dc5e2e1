use Rattle.work_claims.proofs.Closing.{few_all, somebody_all}
use Rattle.work_claims.proofs.moment.open.Goals as goal

pub open_on-requires-clause-few : goal.open_on-requires-clause-few
open_on-requires-clause-few g c = few_all (g.W.Scene.placed c.args.world.now) (c.managers.ensures.placed c.requires.entered)
    c.count_scheduled-counts.result c.managers.result c.managers.ensures.managers c.count_scheduled-counts.ensures.wide
    c.count_scheduled-counts.ensures.each

pub open_on-requires-clause-somebody : goal.open_on-requires-clause-somebody
open_on-requires-clause-somebody g c = somebody_all (g.W.Scene.placed c.args.world.now) (c.managers.ensures.placed c.requires.entered)
    c.count_scheduled-counts.result c.managers.result c.managers.ensures.managers c.count_scheduled-counts.ensures.wide
    c.count_scheduled-counts.ensures.each c.requires.somebody
