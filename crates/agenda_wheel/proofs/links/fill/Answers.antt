use Rattle.agenda_wheel.proofs.Filling.{used_sound, used_pairs}
use Rattle.agenda_wheel.proofs.links.fill.Goals as goal

pub returns-clause-sound : goal.returns-clause-sound
returns-clause-sound c =
    rw (c.fill_raw.ensures.nodes, c.fill_raw.ensures.ticks, c.fill_raw.ensures.actors)
    (used_sound c.args.nodes.now c.args.ticks.now c.args.actors.now c.args.at c.args.due c.requires.sound c.requires.empty c.requires.at_in
    c.requires.known)

pub returns-clause-pairs : goal.returns-clause-pairs
returns-clause-pairs c =
    rw c.fill_raw.ensures.nodes
    (used_pairs c.args.nodes.now c.args.ticks.now c.args.actors.now c.args.at c.args.due c.requires.sound c.requires.empty c.requires.at_in
    c.requires.known)
