use Rattle.std.proofs.Common.{◌≡◌, drop, map}
use Rattle.serde_json.specs.View.{view}
use Rattle.scenario.specs.Reading.{contents_at}
use Rattle.scenario.specs.Table.{row_of}
use Rattle.scenario.proofs.Turns.{after}
use Rattle.scenario.proofs.reading.contents_at.Given as goal

abbrev pub invariant-loop-field : goal.invariant-loop-field
invariant-loop-field l = contents_at l.pass l.names l.actor (view l.object) 0 (map row_of l.fields) ≡ after l.contents.items (contents_at l.pass l.names l.actor (view l.object) l.before (map row_of (drop l.field-index l.fields)))
