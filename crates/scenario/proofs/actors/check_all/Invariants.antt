use Rattle.std.proofs.Common.{◌≡◌, ◌+◌, length, drop, []}
use Rattle.serde_json.specs.View.{items_view}
use Rattle.scenario.specs.Actors.{names_of}
use Rattle.scenario.proofs.Turns.{after}
use Rattle.scenario.proofs.actors.check_all.Given as goal

abbrev pub invariant-loop-value : goal.invariant-loop-value
invariant-loop-value l = record {
  id : l.id ≡ l.value-index + 1;
  len : length l.names ≡ l.value-index;
  so_far : names_of [] 1 (items_view l.values) ≡ after l.names (names_of l.names l.id (items_view (drop l.value-index l.values)));
}
