use Rattle.std.proofs.Common.{ap, ◌∙◌}
use Rattle.serde_json.specs.Data.{string}
use Rattle.scenario.proofs.Printable.{rule_utf8, view-String}
use Rattle.scenario.proofs.printing.rule_value.Goals as goal

pub returns : goal.returns
returns c = view-String c.in_ok-from_utf8_lossy.field-0 ∙ ap string (c.in_ok-from_utf8_lossy.ensures.ok (rule_utf8 c.args.text.now c.requires))
