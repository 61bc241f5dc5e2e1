use Rattle.std.proofs.Common.{◌≡◌, ◌+◌, drop}
use Rattle.serde_json.specs.View.{items_view}
use Rattle.scenario.specs.Actors.{starts_of}
use Rattle.scenario.proofs.Turns.{after}
use Rattle.scenario.proofs.actors.finish_all.Given as goal

abbrev pub invariant-loop-value : goal.invariant-loop-value
invariant-loop-value l = record {
  at : l.at ≡ l.value-index;
  so_far : starts_of l.names 1 l.names (items_view l.values) ≡ after l.starts.items (starts_of l.names (l.at + 1) (drop l.value-index l.names) (items_view (drop l.value-index l.values)));
}
