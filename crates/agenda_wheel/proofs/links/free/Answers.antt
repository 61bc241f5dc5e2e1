use Rattle.std.proofs.Common.{◌≡◌, ◌≢◌, ℕ, sym, subst}
use Rattle.agenda_wheel.proofs.Freeing.{freed_sound, freed_pairs, freed_links}
use Rattle.agenda_wheel.specs.Nodes.{nil}
use Rattle.agenda_wheel.specs.Wheel.{tick_next, tick_prev}
use Rattle.agenda_wheel.proofs.links.free.Goals as goal

pub returns-clause-sound : goal.returns-clause-sound
returns-clause-sound c =
    rw (c.free_raw.ensures.nodes, c.free_raw.ensures.ticks, c.free_raw.ensures.actors)
    (freed_sound c.args.nodes.now c.args.ticks.now c.args.actors.now c.args.at c.args.due c.requires.sound c.requires.used)

pub returns-clause-pairs : goal.returns-clause-pairs
returns-clause-pairs c =
    rw c.free_raw.ensures.nodes
    (freed_pairs c.args.nodes.now c.args.ticks.now c.args.actors.now c.args.at c.args.due c.requires.sound c.requires.used)

pub returns-clause-links : goal.returns-clause-links
returns-clause-links c =
    subst (λ ns. (y : ℕ) → y ≢ nil → y ≢ tick_prev c.args.nodes.now c.args.at
    → tick_next ns y ≡ tick_next c.args.nodes.now y) (sym c.free_raw.ensures.nodes)
    (freed_links c.args.nodes.now c.args.ticks.now c.args.actors.now c.args.at c.args.due c.requires.sound c.requires.used)
