use Rattle.std.proofs.Common.{◌≡◌, List, ap, ◌∙◌}
use Rattle.std.specs.List.{flat_map}
use Rattle.sim_model.specs.Moment.{sends_of}
use Rattle.sim_model.specs.declared.report.Report.{Report}
use Rattle.local_manager.specs.Views.{reports_now}
use Rattle.domain_tests.proofs.Gathering.{same_sends}
use Rattle.domain_tests.proofs.moments.inboxes_of.Goals as goal

pub returns : goal.returns
returns g c =
    let rs = reports_now g.A.Actor.meaning c.args.world.now in
    let sent : c.deref.result.now ≡ flat_map sends_of rs =
    c.deref.ensures.value ∙ c.in_ok-letters.ensures ∙ ap (λ (l : List (Report g.row.A.Denot)). flat_map sends_of l) c.requires.kept ∙ same_sends rs in
    rw (← sent, ← c.urgent.ensures, ← c.parameters.ensures, ← c.now.ensures) c.of.ensures.inboxes
