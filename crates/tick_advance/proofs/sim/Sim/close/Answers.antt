use Rattle.std.proofs.Common.{◌≡◌, map, ap, ◌∙◌}
use Rattle.sim_base.specs.declared.moment.Moment.{Moment}
use Rattle.sim_model.specs.Births.{without_births}
use Rattle.local_manager.specs.Views.{reports_now}
use Rattle.tick_advance.specs.Log.{log_of}
use Rattle.tick_advance.specs.Following.{step_before}
use Rattle.tick_advance.specs.Standing.{SimParts, sim_of}
use Rattle.tick_advance.proofs.Calling.{leads_next}
use Rattle.tick_advance.proofs.Judging.{closes, follows_calm, kept_ascend, reports_ascend, step_calm}
use Rattle.tick_advance.proofs.Keeping.{inboxes_calm, sound_closed, sound_within, whole_within}
use Rattle.tick_advance.proofs.sim.Sim.close.Goals as goal

pub add-requires-clause-ascending : goal.add-requires-clause-ascending
add-requires-clause-ascending g c =
    let m = g.A.Actor.meaning in
    let s = c.self.inside in
    let at : Moment = c.args.at in
    let within = ap (λ v. v.position) c.self.view_is ∙ c.requires.within in
    let sound = sound_within s.world (log_of g.S.Sieve.keeps s.log) s.tree.leaves s.workers s.position at c.self.invariant within in
    let whole = whole_within m s.world (log_of g.S.Sieve.keeps s.log) s.tree.leaves at sound c.managers-managers.ensures.whole in
    let settled = rw (← c.self.view_is) at c.requires.settled in
    let kept : c.kept_of.result.now ≡ map without_births (reports_now m s.world) = c.kept_of.ensures _ _ _ _ settled in
    rw kept (kept_ascend (reports_now m s.world) (reports_ascend m g.met.A.Actor.lawful s.world whole))

pub close-requires-clause-inboxes : goal.close-requires-clause-inboxes
close-requires-clause-inboxes g c =
    let m = g.A.Actor.meaning in
    let s = c.self.inside in
    let within = ap (λ v. v.position) c.self.view_is ∙ c.requires.within in
    let sound = sound_within s.world (log_of g.S.Sieve.keeps s.log) s.tree.leaves s.workers s.position c.args.at c.self.invariant within in
    let calm = rw (← c.self.view_is) at c.requires.calm in
    let sent = rw (← c.self.view_is) at c.requires.inboxes in
    inboxes_calm m s.world c.args.inboxes c.args.at sound.now calm sent

pub invariant_of-self-2 : goal.invariant_of-self-2
invariant_of-self-2 g c =
    let m = g.A.Actor.meaning in
    let s = c.self.inside in
    let within = ap (λ v. v.position) c.self.view_is ∙ c.requires.within in
    let sound = sound_within s.world (log_of g.S.Sieve.keeps s.log) s.tree.leaves s.workers s.position c.args.at c.self.invariant within in
    let calm = rw (← c.self.view_is) at c.requires.calm in
    record {
      some_worker = c.self.invariant.some_worker;
      few_workers = c.self.invariant.few_workers;
      at = rw (c.position_before-self-inside.ensures, c.what_comes_next-next.ensures)
          (sound_closed m s.world c.close.new.self (log_of g.S.Sieve.keeps s.log) (log_of g.S.Sieve.keeps c.add.new.self) s.tree.leaves c.args.at sound calm c.in_ok-close.ensures.closed
          c.in_ok-add.ensures.managers c.in_ok-add.ensures.later);
    }

pub returns-clause-stage : goal.returns-clause-stage
returns-clause-stage g c u h =
    let m = g.A.Actor.meaning in
    let s = c.self.inside in
    let at : Moment = c.args.at in
    let within = ap (λ v. v.position) c.self.view_is ∙ c.requires.within in
    let sound = sound_within s.world (log_of g.S.Sieve.keeps s.log) s.tree.leaves s.workers s.position at c.self.invariant within in
    let settled = rw (← c.self.view_is) at c.requires.settled in
    let kept : c.kept_of.result.now ≡ map without_births (reports_now m s.world) = c.kept_of.ensures _ _ _ _ settled in
    let old : SimParts g.row.A.Denot = record { world = s.world; log = log_of g.S.Sieve.keeps s.log; rounds = s.rounds; position = s.position } in
    let next : SimParts g.row.A.Denot = record {
      world = c.close.new.self;
      log = log_of g.S.Sieve.keeps c.add.new.self;
      rounds = s.rounds;
      position = c.position_before-self-inside.result;
    } in
    follows_calm m (sim_of g.S.Sieve.keeps c.args.self.now) next u at
    (closes m (sim_of g.S.Sieve.keeps c.args.self.now) old next s.tree.leaves at c.kept_of.result.now c.what_comes_next-next.result (ap (sim_of g.S.Sieve.keeps) c.self.view_is) sound c.requires.within
    c.requires.calm kept c.in_ok-add.ensures.rows c.in_ok-close.ensures.closed c.what_comes_next-next.ensures c.position_before-self-inside.ensures) h

pub returns-clause-step : goal.returns-clause-step
returns-clause-step g c u h =
    let m = g.A.Actor.meaning in
    let s = c.self.inside in
    let at : Moment = c.args.at in
    let within = ap (λ v. v.position) c.self.view_is ∙ c.requires.within in
    let sound = sound_within s.world (log_of g.S.Sieve.keeps s.log) s.tree.leaves s.workers s.position at c.self.invariant within in
    let settled = rw (← c.self.view_is) at c.requires.settled in
    let kept : c.kept_of.result.now ≡ map without_births (reports_now m s.world) = c.kept_of.ensures _ _ _ _ settled in
    let old : SimParts g.row.A.Denot = record { world = s.world; log = log_of g.S.Sieve.keeps s.log; rounds = s.rounds; position = s.position } in
    let next : SimParts g.row.A.Denot = record {
      world = c.close.new.self;
      log = log_of g.S.Sieve.keeps c.add.new.self;
      rounds = s.rounds;
      position = c.position_before-self-inside.result;
    } in
    c.step_before.ensures
    ∙ ap step_before c.what_comes_next-next.ensures
    ∙ step_calm m (sim_of g.S.Sieve.keeps c.args.self.now) next u at
    (closes m (sim_of g.S.Sieve.keeps c.args.self.now) old next s.tree.leaves at c.kept_of.result.now c.what_comes_next-next.result (ap (sim_of g.S.Sieve.keeps) c.self.view_is) sound c.requires.within
    c.requires.calm kept c.in_ok-add.ensures.rows c.in_ok-close.ensures.closed c.what_comes_next-next.ensures c.position_before-self-inside.ensures) h

pub returns-clause-leads : goal.returns-clause-leads
returns-clause-leads g c =
    let s = c.self.inside in
    let within = ap (λ v. v.position) c.self.view_is ∙ c.requires.within in
    let sound = sound_within s.world (log_of g.S.Sieve.keeps s.log) s.tree.leaves s.workers s.position c.args.at c.self.invariant within in
    let now = ap (λ v. v.moment) c.in_ok-close.ensures.closed.rest ∙ sound.now in
    rw (c.step_before.ensures, c.position_before-self-inside.ensures)
    (leads_next c.close.new.self.one c.args.at c.close.new.self.moment c.what_comes_next-next.result c.what_comes_next-next.ensures now)
