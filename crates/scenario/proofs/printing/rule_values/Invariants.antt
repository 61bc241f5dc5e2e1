use Rattle.std.proofs.Common.{◌≡◌, take}
use Rattle.serde_json.specs.View.{items_view}
use Rattle.scenario.specs.Print.{text_trees}
use Rattle.scenario.proofs.printing.rule_values.Given as goal

abbrev pub invariant-loop-text : goal.invariant-loop-text
invariant-loop-text l = items_view l.values.items ≡ text_trees (take l.text-index l.texts)
