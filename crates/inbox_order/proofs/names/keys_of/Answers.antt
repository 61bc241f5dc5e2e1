use Rattle.std.proofs.Common.{◌∙◌, ap, map}
use Rattle.actor_trait.specs.InboxOrder.{Precedence}
use Rattle.hash_lanes.specs.Batch as lanes
use Rattle.inbox_order.proofs.Crowding.{keys_of_names}
use Rattle.inbox_order.proofs.names.keys_of.Goals as goal

pub returns : goal.returns
returns c = λ letters e.
    let inside = c.precedence.inside in
    let order : Precedence = record { seed = inside.seed; sent = inside.sent; urgent = inside.urgent.now } in
    rw (← c.precedence.view_is) (c.in_ok-keys.ensures
    ∙ ap (map (lanes.key_of order.seed order.sent.tick order.sent.diasca)) e ∙ keys_of_names order letters)
