use Rattle.std.proofs.Common.{◌≡◌, ap, sym, ◌∙◌, string_bytes, arith, subst, ◌≤◌, Some}
use Rattle.std.specs.Str.{IsUtf8}
use Rattle.std.proofs.lemmas.Grind.{common_steps}
use Rattle.serde_json.specs.Data.{Data, depth}
use Rattle.serde_json.specs.Read.{max_depth}
use Rattle.serde_json.specs.Written.{has_float, compact_text}
use Rattle.scenario.specs.Format.{scenario_of}
use Rattle.scenario.proofs.Law.{scenario_in-tree_for}
use Rattle.scenario.proofs.Trees.{scenario_of-read}
use Rattle.scenario.proofs.Printed.{no_float, shallow}
use Rattle.scenario.proofs.whole.Scenario.print.Goals as goal

pub returns-clause-text : goal.returns-clause-text
returns-clause-text c =
    let bytes : c.of.result ≡ string_bytes c.in_ok-text.text = grind (arith, common_steps) in
    let tree = c.in_ok-tree.ensures.value in
    bytes ∙ c.in_ok-text.ensures.text (ap has_float tree ∙ no_float c.args.self.now) ∙ ap compact_text tree

pub returns-clause-read_again : goal.returns-clause-read_again
returns-clause-read_again c =
    let bytes : c.of.result ≡ string_bytes c.in_ok-text.text = grind (arith, common_steps) in
    let tree = c.in_ok-tree.ensures.value in
    ap scenario_of bytes ∙ scenario_of-read _ _ (subst IsUtf8 c.as_str.ensures.value c.as_str.utf8) (c.in_ok-text.ensures.reads_back (subst (λ (d : Data). depth d ≤ max_depth) (sym tree) (shallow c.args.self.now)) ∙ ap Some tree)
    ∙ scenario_in-tree_for c.args.self.now c.in_ok-tree.ensures.valid
