use Rattle.actor_trait.proofs.Urgency.{searched_urgent}
use Rattle.actor_trait.proofs.precedence.Precedence.is_urgent.Goals as goal

pub returns : goal.returns
returns c = rw (c.is_ok.ensures.value, ← c.self.view_is) (searched_urgent _ c.args.sender _ c.self.invariant c.binary_search.ensures.bound c.binary_search.ensures.position)
