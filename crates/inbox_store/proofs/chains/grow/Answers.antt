use Rattle.inbox_store.proofs.Growing.{sound_same}
use Rattle.inbox_store.proofs.chains.grow.Goals as goal

pub add_free-requires-clause-sound : goal.add_free-requires-clause-sound
add_free-requires-clause-sound c =
    rw c.reserve.ensures.items
    (sound_same c.args.nodes.now.items c.args.chains.now.items c.add_lists.new.chains.items c.add_lists.ensures.same c.add_lists.ensures.sum c.requires.sound)
