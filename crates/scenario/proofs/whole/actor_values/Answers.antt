use Rattle.std.proofs.Common.{arith}
use Rattle.std.proofs.lemmas.Grind.{common_steps}
use Rattle.serde_json.proofs.Views.{items_len-items_view}
use Rattle.scenario.specs.Format.{items_in}
use Rattle.scenario.proofs.whole.actor_values.Goals as goal

pub returns-then-len-max_actors-clause-value : goal.returns-then-len-max_actors-clause-value
unfolding items_in
returns-then-len-max_actors-clause-value c = grind (arith, common_steps, items_len-items_view)

pub returns-clause-value : goal.returns-clause-value
unfolding items_in
returns-clause-value c = grind (arith, common_steps, items_len-items_view)
