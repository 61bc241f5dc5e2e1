use Rattle.std.proofs.Common.{◌≡◌, ◌∙◌, ap, length}
use Rattle.sim_model.specs.SetupParts.{SetupParts}
use Rattle.scenario.specs.ScenarioParts.{ScenarioParts}
use Rattle.scenario.specs.declared.any_actor.AnyActor.{AnyActor}
use Rattle.sim_top.specs.Commands.Gen.{summary}
use Rattle.scenario.specs.AnyActors.{any_meaning}
use Rattle.sim_top.proofs.Kept.{gen_told, tells}
use Rattle.sim_top.proofs.Endings.{ends}
use Rattle.sim_top.proofs.commands.generated.reply.Goals as goal

pub returns-clause-ending : goal.returns-clause-ending
returns-clause-ending g c = rw c.of_ending.ensures (ends _)

pub returns-clause-value : goal.returns-clause-value
returns-clause-value g c =
    let inside = c.setup.inside in
    let told = tells any_meaning inside.setup inside.rules _ c.in_ok-run.run'.0 c.in_ok-text.text c.in_ok-sieve.ensures.text c.in_ok-run.ensures.run c.in_ok-text.ensures in
    let s : ScenarioParts = record { format = inside.format; setup = inside.setup; rules = inside.rules; texts = inside.texts } in
    let count : c.len-actors.result ≡ length s.setup.actors = c.len-actors.ensures ∙ ap (λ (q : SetupParts AnyActor). length q.actors) c.setup-2.view_is in
    let lines : c.of-2.result ≡ summary (length s.setup.actors) c.in_ok-text.text c.in_ok-run.run'.0 = rw (count, c.as_slice.ensures) at (c.of-2.ensures ∙ c.in_ok-lines.ensures) in
    gen_told c.args.groups s c.in_ok-run.run'.0 c.in_ok-text.text c.of-2.result c.of_ending.result c.in_ok-run.run'.1 (c.setup.view_is ∙ c.in_ok-setup.ensures) told lines
    c.of_ending.ensures c.in_ok-run.ensures.rounds
