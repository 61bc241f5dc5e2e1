use Rattle.std.proofs.Common.{◌∙◌, ap}
use Rattle.quiet_core.specs.Rows.{put_pair}
use Rattle.quiet_core.proofs.Blends.{put_pair_is_set}
use Rattle.quiet_core.proofs.pairs.Pairs.put.Goals as goal

pub returns : goal.returns
returns c =
    put_pair_is_set c.self.inside.rows c.args.m c.args.n c.args.number c.self.invariant c.requires.row c.requires.place
    ∙ ap (λ rows. put_pair rows c.args.m c.args.n c.args.number) c.self.view_is
