use Rattle.std.proofs.Common.{◌∙◌, sum, sym, ap}
use Rattle.quiescence.specs.Ended.{Closing}
use Rattle.quiescence.proofs.Totals.{sum_is_below}
use Rattle.quiescence.proofs.ended.Closed.all_scheduled.Goals as goal

pub returns : goal.returns
returns c = c.scheduled.ensures ∙ sym (sum_is_below c.self.inside.ended.frame.sched) ∙ ap (λ (z : Closing). sum z.scheduled) c.self.view_is
