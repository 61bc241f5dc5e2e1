use Rattle.std.proofs.Common.{sym, subst, Result, true≢false}
use Rattle.scenario.specs.Answers.{Gives}
use Rattle.scenario.specs.ScenarioParts.{ScenarioParts}
use Rattle.scenario.specs.declared.refusal.Refusal.{Refusal}
use Rattle.scenario.proofs.Trees.{scenario_of-read, scenario_of-refused}
use Rattle.scenario.proofs.whole.Scenario.read.Goals as goal

pub returns-in-Ok : goal.returns-in-Ok
returns-in-Ok c =
    let ok = c.in-Ok.ensures.ok in
    subst (λ (r : Result ScenarioParts Refusal). Gives c.read_tree.result r) (sym (scenario_of-read c.args.bytes.now _ ok.0 ok.1)) c.read_tree.ensures

pub returns-else-is_memory : goal.returns-else-is_memory
returns-else-is_memory c = scenario_of-refused c.args.bytes.now (λ text. c.in-Err.ensures.err (λ memory. true≢false (sym (c.if-is_memory.ensures.1 memory))) text)
