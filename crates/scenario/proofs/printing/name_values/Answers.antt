use Rattle.std.proofs.Common.{◌∙◌, ap}
use Rattle.serde_json.specs.Data.{string}
use Rattle.scenario.specs.Reading.{nobody}
use Rattle.scenario.specs.Valid.{names_in}
use Rattle.scenario.proofs.PrintTurns.{actor_at, one_more_id}
use Rattle.scenario.proofs.printing.name_values.Goals as goal

pub name_at-requires-clause-there : goal.name_at-requires-clause-there
name_at-requires-clause-there c = actor_at _ c.args.ids.now c.loop-id.id-index nobody c.loop-id-test.true c.requires.there

pub loop-id-preserved : goal.loop-id-preserved
loop-id-preserved c =
    rw c.in_ok-push.ensures.items
    (one_more_id (names_in c.args.starts.now) c.args.ids.now c.loop-id.id-index nobody c.loop-id.values.items _ c.loop-id-test.true c.loop-id.invariant (c.in_ok-text_value.ensures ∙ ap string c.name_at.ensures))
