use Rattle.std.proofs.Common.{◌≡◌, drop, map}
use Rattle.serde_json.specs.View.{items_view}
use Rattle.scenario.specs.Fields.{all_texts}
use Rattle.scenario.proofs.Turns.{before}
use Rattle.scenario.proofs.fields.all_texts.Given as goal

abbrev pub invariant-loop-value : goal.invariant-loop-value
invariant-loop-value l = all_texts (items_view l.values) ≡ before (map (λ t. t.now) l.texts.items) (all_texts (items_view (drop l.value-index l.values)))
