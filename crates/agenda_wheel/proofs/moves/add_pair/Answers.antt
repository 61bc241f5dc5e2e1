use Rattle.std.proofs.Common.{refl}
use Rattle.agenda_wheel.specs.Slots.{sorted}
use Rattle.agenda_wheel.specs.Wheel.{pairs_of}
use Rattle.agenda_wheel.proofs.Adding.{there_already}
use Rattle.agenda_wheel.proofs.Firsts.{noted}
use Rattle.agenda_wheel.proofs.Sets.{rises_sorted}
use Rattle.agenda_wheel.proofs.moves.add_pair.Goals as goal

pub returns-then-holds-clause-pairs : goal.returns-then-holds-clause-pairs
returns-then-holds-clause-pairs c = there_already c.args.nodes.now c.args.due (c.if-holds.ensures.there refl)

pub returns-clause-leasts : goal.returns-clause-leasts
returns-clause-leasts c =
    rw (c.note.ensures, c.join.ensures.pairs)
    (noted c.args.due (sorted (pairs_of c.args.nodes.now)) c.args.leasts.now (rises_sorted (pairs_of c.args.nodes.now)) c.requires.leasts)
