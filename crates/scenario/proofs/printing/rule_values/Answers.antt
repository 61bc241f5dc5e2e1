use Rattle.std.proofs.Common.{ap, ◌∙◌}
use Rattle.serde_json.specs.Data.{string}
use Rattle.scenario.specs.Valid.{is_rule}
use Rattle.scenario.proofs.Printable.{one_more_text, good_rule_at}
use Rattle.scenario.proofs.printing.rule_values.Goals as goal

pub rule_value-requires : goal.rule_value-requires
rule_value-requires c = ap is_rule (c.as_slice.ensures ∙ c.text-item.is) ∙ good_rule_at c.args.texts.now c.loop-text.text-index c.text-item.result c.loop-text-test.true c.requires

pub loop-text-preserved : goal.loop-text-preserved
loop-text-preserved c =
    rw c.in_ok-push.ensures.items
    (one_more_text c.args.texts.now c.loop-text.text-index c.text-item.result c.loop-text.values.items _ c.loop-text-test.true c.text-item.is c.loop-text.invariant (c.in_ok-rule_value.ensures ∙ ap string c.as_slice.ensures))
