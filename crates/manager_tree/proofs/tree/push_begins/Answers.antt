use Rattle.std.proofs.Common.{◌+◌, ◌*◌}
use Rattle.manager_tree.proofs.Pushed.{pushed_more}
use Rattle.manager_tree.proofs.tree.push_begins.Goals as goal

pub loop-place-preserved : goal.loop-place-preserved
loop-place-preserved c = pushed_more (λ place. c.args.first + place * c.args.fanout) _ _ _ _ c.loop-place.invariant c.in_ok-push.ensures.items
