use Rattle.std.proofs.Common.{◌≡◌}
use Rattle.serde_json.specs.View.{members_view}
use Rattle.scenario.specs.Fields.{least_unknown}
use Rattle.scenario.proofs.Unknown.{unknown_in}
use Rattle.scenario.proofs.fields.least_unknown.Given as goal

abbrev pub invariant-loop-key : goal.invariant-loop-key
invariant-loop-key l = least_unknown l.owner (members_view l.object.entries) ≡ unknown_in l.owner l.key-iterator
