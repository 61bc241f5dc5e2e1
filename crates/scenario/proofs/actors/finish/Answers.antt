use Rattle.std.proofs.Common.{◌≡◌, List, Ok, subst}
use Rattle.serde_json.specs.View.{view}
use Rattle.scenario.specs.Reading.{contents_at}
use Rattle.scenario.specs.Table.{Row, fields_of}
use Rattle.scenario.specs.declared.reading.Pass.TheVariants as pass
use Rattle.scenario.proofs.ReadFits.{all_fit}
use Rattle.scenario.proofs.actors.finish.Goals as goal

pub build-requires : goal.build-requires
build-requires c =
    let read = subst (λ (rs : List Row). contents_at pass.Finish c.args.names.now c.args.id (view c.args.value.now) 0 rs ≡ Ok c.in_ok-contents.contents.items) c.fields_of.ensures c.in_ok-contents.ensures in
    rw c.deref.ensures.value (all_fit pass.Finish c.args.names.now c.args.id (view c.args.value.now) 0 (fields_of c.in_ok-kind.kind) c.in_ok-contents.contents.items read)
