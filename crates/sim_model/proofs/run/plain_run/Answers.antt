use Rattle.std.proofs.Common.{ap, arith, sym, subst, ◌∙◌}
use Rattle.sim_model.specs.Run.{follow}
use Rattle.sim_model.specs.Setups.{IsSetup}
use Rattle.sim_model.proofs.Forward.{agenda_rises, fine_below, fine_rank}
use Rattle.sim_model.proofs.Reaching.{reached_end, reached_next, start_reached}
use Rattle.sim_model.proofs.run.plain_run.Goals as goal

pub loop-room-init : goal.loop-room-init
loop-room-init g c = rw c.in_ok-underway.ensures
    (start_reached g.A.Actor.meaning c.args.setup.now (subst (λ s. IsSetup s) c.setup.view_is c.setup.invariant))

pub step-requires-clause-whole : goal.step-requires-clause-whole
step-requires-clause-whole g c = c.loop-room.invariant.whole

pub step-requires-clause-diasca : goal.step-requires-clause-diasca
step-requires-clause-diasca g c = c.loop-room.invariant.fine.sound.diasca

pub step-requires-clause-agenda : goal.step-requires-clause-agenda
step-requires-clause-agenda g c = agenda_rises c.loop-room.underway.world c.loop-room.underway.next c.loop-room.invariant.fine.sound

pub loop-room-smaller : goal.loop-room-smaller
loop-room-smaller g c =
    let u = c.loop-room.underway in
    let now = c.step.new.underway in
    let going = sym c.in_ok-next.ensures ∙ ap (λ n. follow u.next now.world now.rows n) c.in-Enters.is in
    let reached = c.loop-room.invariant in
    omega (
      arith,
      fine_rank g.A.Actor.meaning c.args.setup.now u _ reached.moments reached.fine going,
      fine_below c.args.setup.now u reached.moments reached.fine,
    )

pub loop-room-preserved : goal.loop-room-preserved
loop-room-preserved g c =
    let u = c.loop-room.underway in
    let now = c.step.new.underway in
    let going = sym c.in_ok-next.ensures ∙ ap (λ n. follow u.next now.world now.rows n) c.in-Enters.is in
    reached_next g.A.Actor.meaning g.met.A.Actor.lawful c.args.setup.now u _ c.loop-room.invariant going

pub returns-in-Ends : goal.returns-in-Ends
returns-in-Ends g c =
    let u = c.loop-room.underway in
    let now = c.step.new.underway in
    let over = sym c.in_ok-next.ensures ∙ ap (λ n. follow u.next now.world now.rows n) c.in-Ends.is in
    rw c.give_results.ensures (reached_end g.A.Actor.meaning c.args.setup.now u _ c.loop-room.invariant over)
