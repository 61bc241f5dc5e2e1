use Rattle.std.proofs.Common.{◌≡◌, ◌∙◌, ◌++◌, ◌∷◌, [], ap}
use Rattle.std.proofs.lemmas.List.{with_items_is}
use Rattle.std.specs.List.{fold}
use Rattle.sim_model.specs.Moment.{put_state}
use Rattle.sim_model.proofs.Putting.{puts_last}
use Rattle.sim_model.proofs.closing.put_all.Goals as goal

pub loop-report-preserved : goal.loop-report-preserved
loop-report-preserved g c =
    let popped : c.loop-report.reports.items ≡ c.pop.new.self.items ++ c.in-Some.report ∷ [] = c.in-Some.ensures.items in
    let step = puts_last c.loop-report.states.items c.loop-report.reports.items c.pop.new.self.items c.in-Some.report popped c.loop-report.invariant.0 in
    let put = with_items_is c.loop-report.states c.put_state.new.states (c.put_state.auto.states ∙ c.deref_mut.ensures.len)
    ∙ (rw c.deref_mut.ensures.value at c.put_state.ensures) in
    (step.ascend, ap (λ s. fold put_state s c.pop.new.self.items) put ∙ step.same ∙ c.loop-report.invariant.1)
