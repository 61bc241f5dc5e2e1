use Rattle.std.proofs.Common.{◌≡◌, ℕ, List, length, ap, sym, ◌∙◌, subst, true, []}
use Rattle.std.specs.List.{list_all}
use Rattle.std.proofs.lemmas.Result.{IfOk-weaker}
use Rattle.sim_base.specs.declared.ids.ActorId.{ActorId}
use Rattle.sim_model.specs.SetupParts.{SetupParts}
use Rattle.scenario.specs.ScenarioParts.{ScenarioParts}
use Rattle.scenario.specs.Valid.{AreActors, AreNames, is_rule}
use Rattle.scenario.specs.declared.any_actor.AnyActor.{AnyActor}
use Rattle.scenario.specs.declared.whole.Limits.{Limits}
use Rattle.scenario.proofs.Law.{actors_known}
use Rattle.scenario.proofs.Printable.{all_named, rules_good}
use Rattle.scenario.proofs.Printed.{tree_for-parts}
use Rattle.scenario.proofs.printing.tree_value.Goals as goal

pub actor_values-requires-clause-named : goal.actor_values-requires-clause-named
actor_values-requires-clause-named c =
    let is = c.as_slice-starts.ensures ∙ ap (λ (p : SetupParts AnyActor). p.actors) c.setup.view_is in
    subst AreNames (sym is) (all_named [] _ c.scenario.invariant.names)

pub rule_values-requires : goal.rule_values-requires
rule_values-requires c = subst (λ (ts : List (List ℕ)). list_all is_rule ts ≡ true) (sym c.as_slice.ensures) (rules_good 1 c.scenario.inside.texts c.scenario.inside.rules c.scenario.invariant.rules)

pub name_values-requires-clause-there : goal.name_values-requires-clause-there
name_values-requires-clause-there c =
    let setup = c.scenario.inside.setup in
    let starts = c.as_slice-starts.ensures ∙ ap (λ (p : SetupParts AnyActor). p.actors) c.setup.view_is in
    let urgent = c.as_slice-2.ensures ∙ ap (λ (p : SetupParts AnyActor). p.urgent) c.setup.view_is in
    let known = actors_known (length setup.actors) setup.urgent c.scenario.invariant.setup.known in
    subst (λ n. AreActors n c.as_slice-2.result.now) (ap length (sym starts)) (subst (λ (ids : List ActorId). AreActors (length setup.actors) ids) (sym urgent) known)

pub name_values-requires-clause-named : goal.name_values-requires-clause-named
name_values-requires-clause-named c =
    let is = c.as_slice-starts.ensures ∙ ap (λ (p : SetupParts AnyActor). p.actors) c.setup.view_is in
    subst AreNames (sym is) (all_named [] _ c.scenario.invariant.names)

pub returns-clause-value : goal.returns-clause-value
returns-clause-value c =
    let inside = c.setup.inside in
    let limits : Limits = record { format = c.scenario.inside.format; seed = inside.seed; last_tick = inside.last_tick; diasca_limit = inside.diasca_limit; max_actors = inside.max_actors } in
    let is = c.setup.view_is ∙ ap (λ (p : ScenarioParts). p.setup) c.scenario.view_is in
    IfOk-weaker c.whole_value.result _ _ (λ v e. e ∙ tree_for-parts c.args.scenario.now limits c.as_slice-starts.result.now c.as_slice.result.now c.as_slice-2.result.now _ _ _
    (ap (λ (p : ScenarioParts). p.format) c.scenario.view_is)
    (ap (λ (p : SetupParts AnyActor). p.seed) is) (ap (λ (p : SetupParts AnyActor). p.last_tick) is) (ap (λ (p : SetupParts AnyActor). p.diasca_limit) is) (ap (λ (p : SetupParts AnyActor). p.max_actors) is)
    (c.as_slice-starts.ensures ∙ ap (λ (p : SetupParts AnyActor). p.actors) is) (c.as_slice.ensures ∙ ap (λ (p : ScenarioParts). p.texts) c.scenario.view_is) (c.as_slice-2.ensures ∙ ap (λ (p : SetupParts AnyActor). p.urgent) is)
    c.in_ok-actors.ensures c.in_ok-results.ensures c.in_ok-urgent.ensures) c.whole_value.ensures
