use Rattle.std.proofs.Common.{◌∙◌, sym}
use Rattle.sim_model.proofs.Called.{inbox_at_first, none_in_order}
use Rattle.sim_model.proofs.world.WorldState.fill_inboxes.Goals as goal

pub returns-then-at-eq0 : goal.returns-then-at-eq0
returns-then-at-eq0 g c id =
    c.in_ok-renew.ensures.inboxes id ∙ none_in_order _
    ∙ sym (inbox_at_first c.args.self.now c.args.at id c.if-at-eq0.true)
