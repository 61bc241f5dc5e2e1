use Rattle.std.proofs.Common.{◌≡◌, take, map}
use Rattle.serde_json.specs.View.{items_view}
use Rattle.scenario.specs.Print.{name_at, text_trees}
use Rattle.scenario.specs.Valid.{names_in}
use Rattle.scenario.proofs.printing.name_values.Given as goal

abbrev pub invariant-loop-id : goal.invariant-loop-id
invariant-loop-id l = items_view l.values.items ≡ text_trees (map (name_at (names_in l.starts)) (take l.id-index l.ids))
