use Rattle.std.proofs.Common.{◌≡◌, Ok, arith, Result}
use Rattle.std.proofs.lemmas.Grind.{common_steps}
use Rattle.serde_json.specs.View.{view}
use Rattle.scenario.specs.Format.{scenario_in}
use Rattle.scenario.specs.ScenarioParts.{ScenarioParts}
use Rattle.scenario.specs.declared.refusal.Refusal.{Refusal}
use Rattle.scenario.proofs.Facts.{scenario_in-ok}
use Rattle.scenario.proofs.whole.Scenario.read_tree.Goals as goal

pub invariant_of-result : goal.invariant_of-result
unfolding scenario_in
invariant_of-result c =
    let limits = c.in_ok-limits.limits in
    let made : ScenarioParts = record {
      format = limits.format;
      setup = record { seed = limits.seed; last_tick = limits.last_tick; diasca_limit = limits.diasca_limit; max_actors = limits.max_actors; actors = c.in_ok-actors.actors; urgent = c.in_ok-urgent.urgent };
      rules = c.in_ok-rules.rules;
      texts = c.in_ok-texts.texts;
    } in
    let read : ◌≡◌ {A = Result ScenarioParts Refusal} (scenario_in (view c.args.tree.now)) (Ok made) = grind (arith, common_steps) in
    (scenario_in-ok (view c.args.tree.now) made read).setup

pub invariant_of-result-2 : goal.invariant_of-result-2
unfolding scenario_in
invariant_of-result-2 c =
    let limits = c.in_ok-limits.limits in
    let made : ScenarioParts = record {
      format = limits.format;
      setup = record { seed = limits.seed; last_tick = limits.last_tick; diasca_limit = limits.diasca_limit; max_actors = limits.max_actors; actors = c.in_ok-actors.actors; urgent = c.in_ok-urgent.urgent };
      rules = c.in_ok-rules.rules;
      texts = c.in_ok-texts.texts;
    } in
    let read : ◌≡◌ {A = Result ScenarioParts Refusal} (scenario_in (view c.args.tree.now)) (Ok made) = grind (arith, common_steps) in
    scenario_in-ok (view c.args.tree.now) made read
