use Rattle.std.proofs.Common.{◌≤◌, subst}
use Rattle.work_claims.proofs.Worlds.{placed_world}
use Rattle.work_claims.proofs.world_scene.WorldScene.managers.Goals as goal

pub returns-clause-placed : goal.returns-clause-placed
returns-clause-placed g c =
    let v = c.args.self.now in
    let is = c.managers.ensures in
    placed_world g.A.Actor.meaning v (subst (λ n. 1 ≤ n) is.count is.some) (subst (λ n. n ≤ 16) is.count is.few) is.homes is.whole
