use Rattle.std.proofs.Common.{◌≡◌, Some, None, ap, sym, ◌∙◌}
use Rattle.actor_lifecycle.specs.Settling.{settled_by}
use Rattle.sim_model.specs.Moment.{fault_of_moment, next_id}
use Rattle.local_manager.specs.Views.{reports_now}
use Rattle.tick_advance.specs.Log.{log_of}
use Rattle.tick_advance.specs.Standing.{sim_of}
use Rattle.tick_advance.proofs.Judging.{over_by_fault, reports_increase, settled_now, step_by_fault}
use Rattle.tick_advance.proofs.Keeping.{sound_within, whole_within}
use Rattle.tick_advance.proofs.sim.Sim.conclude.Goals as goal

pub settle-requires-clause-ascending : goal.settle-requires-clause-ascending
settle-requires-clause-ascending g c =
    let m = g.A.Actor.meaning in
    let s = c.self.inside in
    let within = ap (λ v. v.position) c.self.view_is ∙ c.requires.within in
    let sound = sound_within s.world (log_of g.S.Sieve.keeps s.log) s.tree.leaves s.workers s.position c.args.at c.self.invariant within in
    let whole = whole_within m s.world (log_of g.S.Sieve.keeps s.log) s.tree.leaves c.args.at sound c.managers-managers.ensures.whole in
    let reports = rw (← c.self.view_is) at c.requires.reports in
    rw reports (reports_increase m g.met.A.Actor.lawful s.world whole)

pub close-requires-clause-settled : goal.close-requires-clause-settled
close-requires-clause-settled g c =
    let m = g.A.Actor.meaning in
    let w = c.args.self.now.world in
    let told = settled_now m w c.self.inside.world c.args.at c.in-Ok.settled c.max_actors.result c.next_id-next_id.result c.args.reports
    c.in-Ok.ensures.settled c.max_actors.ensures c.next_id-next_id.ensures.id (ap (λ v. v.world) c.self.view_is) c.requires.reports in
    let none : fault_of_moment m w.one c.args.at (reports_now m w) ≡ None = sym (c.in-None.ensures m _ _ _ told) in
    told ∙ ap (λ o. settled_by m (next_id w.one) (reports_now m w) o) none

pub returns-in-Some-clause-stage : goal.returns-in-Some-clause-stage
returns-in-Some-clause-stage g c u h =
    let m = g.A.Actor.meaning in
    let s = c.self.inside in
    let w = c.args.self.now.world in
    let within = ap (λ v. v.position) c.self.view_is ∙ c.requires.within in
    let sound = sound_within s.world (log_of g.S.Sieve.keeps s.log) s.tree.leaves s.workers s.position c.args.at c.self.invariant within in
    let now = sym (ap (λ v. v.world.moment) c.self.view_is) ∙ sound.now in
    let told = settled_now m w s.world c.args.at c.in-Ok.settled c.max_actors.result c.next_id-next_id.result c.args.reports
    c.in-Ok.ensures.settled c.max_actors.ensures c.next_id-next_id.ensures.id (ap (λ v. v.world) c.self.view_is) c.requires.reports in
    let shown : fault_of_moment m w.one c.args.at (reports_now m w) ≡ Some c.in-Some.fault =
    sym (c.in-Some.ensures m _ _ _ told) in
    rw c.end.ensures.over
    (over_by_fault m (sim_of g.S.Sieve.keeps c.args.self.now) u c.args.at c.in-Some.fault c.requires.within now shown h)

pub returns-in-Some-clause-step : goal.returns-in-Some-clause-step
returns-in-Some-clause-step g c u h =
    let m = g.A.Actor.meaning in
    let s = c.self.inside in
    let w = c.args.self.now.world in
    let within = ap (λ v. v.position) c.self.view_is ∙ c.requires.within in
    let sound = sound_within s.world (log_of g.S.Sieve.keeps s.log) s.tree.leaves s.workers s.position c.args.at c.self.invariant within in
    let now = sym (ap (λ v. v.world.moment) c.self.view_is) ∙ sound.now in
    let told = settled_now m w s.world c.args.at c.in-Ok.settled c.max_actors.result c.next_id-next_id.result c.args.reports
    c.in-Ok.ensures.settled c.max_actors.ensures c.next_id-next_id.ensures.id (ap (λ v. v.world) c.self.view_is) c.requires.reports in
    let shown : fault_of_moment m w.one c.args.at (reports_now m w) ≡ Some c.in-Some.fault =
    sym (c.in-Some.ensures m _ _ _ told) in
    rw c.end.ensures.step
    (step_by_fault m (sim_of g.S.Sieve.keeps c.args.self.now) u c.args.at c.in-Some.fault c.requires.within now shown h)
