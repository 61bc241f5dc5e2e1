use Rattle.agenda_wheel.specs.Slots.{sorted}
use Rattle.agenda_wheel.specs.Wheel.{pairs_of}
use Rattle.agenda_wheel.proofs.Firsts.{renewed}
use Rattle.agenda_wheel.proofs.leasts.renew.Goals as goal

pub returns : goal.returns
returns c = rw c.renew.ensures (renewed (sorted (pairs_of c.args.nodes.now)) c.args.leasts.now c.args.bucket c.least_in.result c.requires.size c.requires.inside
    c.requires.others c.least_in.ensures)
