use Rattle.std.proofs.Common.{◌∙◌, ap, sym, Ok}
use Rattle.scenario.specs.AnyActors.{any_meaning}
use Rattle.scenario.specs.ScenarioParts.{ScenarioParts}
use Rattle.sim_top.specs.Commands.Run.{run_answer}
use Rattle.sim_top.specs.Tasks.{answered}
use Rattle.sim_top.specs.declared.answer.Answer.{Answer}
use Rattle.sim_top.proofs.Kept.{run_told, tells}
use Rattle.sim_top.proofs.commands.run.reply.Goals as goal

pub returns-clause-value : goal.returns-clause-value
returns-clause-value g c =
    let inside = c.setup.inside in
    let s : ScenarioParts = record { format = inside.format; setup = inside.setup; rules = inside.rules; texts = inside.texts } in
    let told = tells any_meaning s.setup s.rules _ c.in_ok-run.run'.0 c.in_ok-text.field-0 c.in_ok-sieve.ensures.text c.in_ok-run.ensures.run c.in_ok-text.ensures in
    let answer = run_told s c.in_ok-run.run'.0 c.in_ok-text.field-0 c.of_ending.result c.in_ok-run.run'.1 told c.of_ending.ensures c.in_ok-run.ensures.rounds in
    ap (answered run_answer) (c.in_ok-setup.ensures ∙ ap (λ (s : ScenarioParts). Ok s) (sym c.setup.view_is)) ∙ ap (λ (a : Answer). Ok a) answer
