use Rattle.actor_trait.proofs.Urgency.{searched_urgent}
use Rattle.sim_model.proofs.Ascending.{to_increasing}
use Rattle.local_manager.proofs.opened.contains.Goals as goal

pub returns : goal.returns
returns c = rw c.is_ok.ensures.value (searched_urgent c.args.ids.now c.args.id _
    (to_increasing c.args.ids.now c.requires) c.binary_search.ensures.bound c.binary_search.ensures.position)
