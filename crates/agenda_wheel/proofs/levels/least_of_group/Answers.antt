use Rattle.std.proofs.Common.{◌+◌, ◌*◌, ◌-◌, arith}
use Rattle.agenda_wheel.proofs.Groups.{group_cut}
use Rattle.agenda_wheel.proofs.levels.least_of_group.Goals as goal

pub returns : goal.returns
returns c =
    group_cut c.args.buckets.now (c.args.group * 32) (c.args.group * 32 + 32 - c.args.group * 32) c.args.group c.least_of_all.result
    c.requires.size c.requires.inside (omega arith) (omega arith) c.least_of_all.ensures
