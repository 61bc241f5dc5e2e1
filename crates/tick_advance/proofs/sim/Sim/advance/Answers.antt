use Rattle.std.proofs.Common.{◌≡◌, ◌+◌, ◌≤◌, ℕ, ap, arith, sym, ◌∙◌}
use Rattle.sim_base.specs.declared.moment.Moment.{Moment}
use Rattle.sim_model.specs.Run.{run_after, step}
use Rattle.sim_model.specs.SetupParts.{SetupParts}
use Rattle.sim_model.specs.declared.stage.Underway.{Underway}
use Rattle.local_manager.specs.Views.{managers_of}
use Rattle.local_manager.proofs.Keeping.{on_ok}
use Rattle.work_claims.specs.declared.harvest.Harvest.{Harvest}
use Rattle.tick_advance.specs.Log.{log_of}
use Rattle.tick_advance.specs.RoundsOf.{with_moment}
use Rattle.tick_advance.specs.Standing.{IsWithin, SimParts, StandsWithin, step_to, sim_of}
use Rattle.tick_advance.proofs.Judging.{if_ok, stands_next, step_next, within_same}
use Rattle.tick_advance.proofs.Keeping.{sound_within, within_still, work_within}
use Rattle.tick_advance.proofs.Sums.{closing_counts}
use Rattle.tick_advance.proofs.sim.Sim.advance.Goals as goal

pub conclude-requires-clause-inboxes : goal.conclude-requires-clause-inboxes
conclude-requires-clause-inboxes g c =
    let s = c.self.inside in
    let old : SimParts g.row.A.Denot = record { world = s.world; log = log_of g.S.Sieve.keeps s.log; rounds = s.rounds; position = s.position } in
    let h : Harvest g.row.A.Denot = record { closed = c.args.closed; reports = c.args.reports; inboxes = c.args.inboxes } in
    (work_within g.A.Actor.meaning (sim_of g.S.Sieve.keeps c.args.self.now) old c.in-Within.at h (ap (sim_of g.S.Sieve.keeps) c.self.view_is) c.in-Within.is c.requires.harvest).harvest.inboxes

pub returns-in-Within-clause-stage : goal.returns-in-Within-clause-stage
returns-in-Within-clause-stage g c =
    let s = c.self.inside in
    let old : SimParts g.row.A.Denot = record { world = s.world; log = log_of g.S.Sieve.keeps s.log; rounds = s.rounds; position = s.position } in
    on_ok c.conclude.result (λ f u h. f u (within_still (sim_of g.S.Sieve.keeps c.args.self.now) old c.add.new.self u (ap (sim_of g.S.Sieve.keeps) c.self.view_is) h)) c.conclude.ensures.stage

pub returns-in-Within-clause-rounds : goal.returns-in-Within-clause-rounds
returns-in-Within-clause-rounds g c at e =
    let m = g.A.Actor.meaning in
    let s = c.self.inside in
    let old : SimParts g.row.A.Denot = record { world = s.world; log = log_of g.S.Sieve.keeps s.log; rounds = s.rounds; position = s.position } in
    let h : Harvest g.row.A.Denot = record { closed = c.args.closed; reports = c.args.reports; inboxes = c.args.inboxes } in
    let work = work_within m (sim_of g.S.Sieve.keeps c.args.self.now) old c.in-Within.at h (ap (sim_of g.S.Sieve.keeps) c.self.view_is) c.in-Within.is c.requires.harvest in
    let sound = sound_within s.world (log_of g.S.Sieve.keeps s.log) s.tree.leaves s.workers s.position c.in-Within.at c.self.invariant c.in-Within.is in
    let some : 1 ≤ managers_of s.world = omega (arith, c.managers-managers.ensures.count, c.managers-managers.ensures.some) in
    let stood = sym (ap (λ v. v.position) c.self.view_is) ∙ c.in-Within.is in
    c.conclude.ensures.rounds
    ∙ c.add.ensures
    ∙ closing_counts m s.world c.args.closed some c.managers-managers.ensures.homes work.harvest.closed s.rounds work.somebody
    ∙ ap (λ t. with_moment m s.world.one t s.rounds) (sound.now ∙ within_same c.args.self.now.position c.in-Within.at at stood e)
    ∙ ap (λ (v : SimParts g.row.A.Denot). with_moment m v.world.one at v.rounds) (ap (sim_of g.S.Sieve.keeps) c.self.view_is)

pub returns-in-Within-clause-stands : goal.returns-in-Within-clause-stands
returns-in-Within-clause-stands g c =
    let m = g.A.Actor.meaning in
    let s = c.self.inside in
    let at : Moment = c.in-Within.at in
    let old : SimParts g.row.A.Denot = record { world = s.world; log = log_of g.S.Sieve.keeps s.log; rounds = s.rounds; position = s.position } in
    let sound = sound_within s.world (log_of g.S.Sieve.keeps s.log) s.tree.leaves s.workers s.position at c.self.invariant c.in-Within.is in
    let stood = sym (ap (λ v. v.position) c.self.view_is) ∙ c.in-Within.is in
    let now = sym (ap (λ v. v.world.moment) c.self.view_is) ∙ sound.now in
    on_ok c.conclude.result
    (λ f setup k h. stands_next m setup k (sim_of g.S.Sieve.keeps c.args.self.now) (sim_of g.S.Sieve.keeps c.conclude.new.self) at stood now
    (λ u w. f u (within_still (sim_of g.S.Sieve.keeps c.args.self.now) old c.add.new.self u (ap (sim_of g.S.Sieve.keeps) c.self.view_is) w)) (returns-in-Within-clause-rounds g c at stood) h)
    c.conclude.ensures.stage

pub returns-in-Within-clause-step : goal.returns-in-Within-clause-step
returns-in-Within-clause-step g c =
    let m = g.A.Actor.meaning in
    let s = c.self.inside in
    let old : SimParts g.row.A.Denot = record { world = s.world; log = log_of g.S.Sieve.keeps s.log; rounds = s.rounds; position = s.position } in
    let counted : SimParts g.row.A.Denot = record { world = s.world; log = log_of g.S.Sieve.keeps s.log; rounds = c.add.new.self; position = s.position } in
    if_ok (λ went. (u : Underway g.row.A.Denot) → IsWithin counted u → went ≡ step_to (step m u))
    (λ went. (setup : SetupParts g.row.A.Denot) (k : ℕ) → StandsWithin m setup k (sim_of g.S.Sieve.keeps c.args.self.now) → went ≡ step_to (run_after m setup (k + 1)))
    c.conclude.result
    (λ went f setup k h. step_next m setup k (sim_of g.S.Sieve.keeps c.args.self.now) went
    (λ u w. f u (within_still (sim_of g.S.Sieve.keeps c.args.self.now) old c.add.new.self u (ap (sim_of g.S.Sieve.keeps) c.self.view_is) w)) h)
    c.conclude.ensures.step
