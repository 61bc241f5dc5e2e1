use Rattle.std.proofs.Common.{List, ◌++◌, ap, sym, ◌∙◌}
use Rattle.sim_model.specs.declared.setup.Start.{Start}
use Rattle.scenario.specs.Generated.{first_groups}
use Rattle.scenario.specs.declared.any_actor.AnyActor.{AnyActor}
use Rattle.scenario.proofs.GeneratedFacts.{first_more}
use Rattle.scenario.proofs.generating.groups.Goals as goal

pub loop-g-preserved : goal.loop-g-preserved
loop-g-preserved c =
    let so_far = first_groups c.args.n c.loop-g.g in
    c.in_ok-add_all.ensures ∙ ap (λ (ss : List (Start AnyActor)). ss ++ c.in_ok-group.field-0.items) c.loop-g.invariant ∙ ap (λ (ss : List (Start AnyActor)). so_far ++ ss) c.in_ok-group.ensures
    ∙ sym (first_more c.args.n c.loop-g.g)
