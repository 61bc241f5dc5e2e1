use Rattle.std.proofs.Common.{◌≡◌, take}
use Rattle.serde_json.specs.View.{items_view}
use Rattle.scenario.specs.Print.{actor_trees}
use Rattle.scenario.specs.Valid.{names_in}
use Rattle.scenario.proofs.printing.actor_values.Given as goal

abbrev pub invariant-loop-start : goal.invariant-loop-start
invariant-loop-start l = items_view l.values.items ≡ actor_trees (names_in l.starts) (take l.start-index l.starts)
