use Rattle.std.proofs.Common.{ap, ◌∙◌}
use Rattle.work_claims.specs.Collecting.{inbox_in}
use Rattle.work_claims.proofs.Closing.{all_inboxes}
use Rattle.work_claims.proofs.moment.crew_in.Goals as goal

pub returns : goal.returns
returns g c =
    let m = g.A.Actor.meaning in
    let p = g.W.Scene.placed c.args.world.now in
    record {
      reports = c.in_ok-hand.ensures.reports;
      inboxes = λ to. c.in_ok-inboxes.ensures to ∙ ap (λ ps. inbox_in ps to) c.in_ok-closed.ensures.parts
          ∙ all_inboxes m p c.in_ok-round.round (c.managers-managers.ensures.placed c.requires.entered) c.as_slice.result.now c.in_ok-collected.collected
          c.in_ok-collected.ensures (c.as_slice.ensures ∙ c.in_ok-hand.ensures.reports) to;
      closed = c.in_ok-closed.ensures.closed;
    }
