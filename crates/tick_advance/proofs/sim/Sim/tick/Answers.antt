use Rattle.std.proofs.Common.{◌≡◌, ◌∙◌, ap, refl, subst}
use Rattle.tick_advance.specs.Log.{log_of}
use Rattle.tick_advance.specs.Sound.{IsSoundAt}
use Rattle.tick_advance.specs.Standing.{sim_of}
use Rattle.tick_advance.specs.declared.position.Position.TheVariants as position
use Rattle.tick_advance.specs.declared.position.Step.TheVariants as went
use Rattle.tick_advance.proofs.Passing.{ends, fewer_left, goes_on, more_passed, none_passed, steps_by, tick_passed, to_end, to_tick}
use Rattle.tick_advance.proofs.sim.Sim.tick.Goals as goal

pub loop-ending-init : goal.loop-ending-init
loop-ending-init g c = record { passes = none_passed g.A.Actor.meaning (sim_of g.S.Sieve.keeps c.args.self.now); ended = λ e over. refl }

pub loop-ending-smaller : goal.loop-ending-smaller
loop-ending-smaller g c =
    let m = g.A.Actor.meaning in
    let w = sim_of g.S.Sieve.keeps c.loop-ending.self in
    let x = sim_of g.S.Sieve.keeps c.diasca.new.self in
    let did = c.in_ok-diasca.ensures in
    let one = steps_by m g.S.Sieve.keeps c.loop-ending.self c.diasca.new.self c.in_ok-diasca.field-0 went.NextDiasca c.in-NextDiasca.is
    did.stands did.step did.leads did.parameters did.given did.keeps did.ended did.stays_lost in
    fewer_left m w x (log_of g.S.Sieve.keeps c.self.inside.log) c.self.inside.tree.leaves one
    (subst (λ v. IsSoundAt v.world (log_of g.S.Sieve.keeps c.self.inside.log) c.self.inside.tree.leaves v.position) c.self.view_is c.self.invariant.at)

pub loop-ending-preserved : goal.loop-ending-preserved
loop-ending-preserved g c =
    let m = g.A.Actor.meaning in
    let w = sim_of g.S.Sieve.keeps c.loop-ending.self in
    let x = sim_of g.S.Sieve.keeps c.diasca.new.self in
    let did = c.in_ok-diasca.ensures in
    let one = steps_by m g.S.Sieve.keeps c.loop-ending.self c.diasca.new.self c.in_ok-diasca.field-0 went.NextDiasca c.in-NextDiasca.is
    did.stands did.step did.leads did.parameters did.given did.keeps did.ended did.stays_lost in
    record {
      passes = more_passed m (sim_of g.S.Sieve.keeps c.args.self.now) w x one c.loop-ending.invariant.passes;
      ended = λ e over.
          let stays : c.loop-ending.self.position ≡ position.Ended e = ap (λ v. v.position) (c.loop-ending.invariant.ended e over) ∙ over in
          absurd (let clash : went.NextDiasca ≡ went.Ended e = one.ended e stays in cc);
    }

pub returns-in-NextTick-clause-stands : goal.returns-in-NextTick-clause-stands
returns-in-NextTick-clause-stands g c =
    let m = g.A.Actor.meaning in
    let w = sim_of g.S.Sieve.keeps c.loop-ending.self in
    let x = sim_of g.S.Sieve.keeps c.diasca.new.self in
    let did = c.in_ok-diasca.ensures in
    let one = steps_by m g.S.Sieve.keeps c.loop-ending.self c.diasca.new.self c.in_ok-diasca.field-0 went.NextTick c.in-NextTick.is
    did.stands did.step did.leads did.parameters did.given did.keeps did.ended did.stays_lost in
    tick_passed m (sim_of g.S.Sieve.keeps c.args.self.now) w x went.NextTick (λ e. cc) one c.loop-ending.invariant.passes

pub returns-in-NextTick-clause-progress : goal.returns-in-NextTick-clause-progress
returns-in-NextTick-clause-progress g c =
    let m = g.A.Actor.meaning in
    let w = sim_of g.S.Sieve.keeps c.loop-ending.self in
    let x = sim_of g.S.Sieve.keeps c.diasca.new.self in
    let did = c.in_ok-diasca.ensures in
    let one = steps_by m g.S.Sieve.keeps c.loop-ending.self c.diasca.new.self c.in_ok-diasca.field-0 went.NextTick c.in-NextTick.is
    did.stands did.step did.leads did.parameters did.given did.keeps did.ended did.stays_lost in
    let before = to_tick m w x one in λ s k h. goes_on x _ before.0 before.1 h.stage

pub returns-in-Ended-clause-stands : goal.returns-in-Ended-clause-stands
returns-in-Ended-clause-stands g c =
    let m = g.A.Actor.meaning in
    let w = sim_of g.S.Sieve.keeps c.loop-ending.self in
    let x = sim_of g.S.Sieve.keeps c.diasca.new.self in
    let did = c.in_ok-diasca.ensures in
    let one = steps_by m g.S.Sieve.keeps c.loop-ending.self c.diasca.new.self c.in_ok-diasca.field-0 (went.Ended c.in-Ended.ending) c.in-Ended.is
    did.stands did.step did.leads did.parameters did.given did.keeps did.ended did.stays_lost in
    tick_passed m (sim_of g.S.Sieve.keeps c.args.self.now) w x (went.Ended c.in-Ended.ending) (λ e. cc) one c.loop-ending.invariant.passes

pub returns-in-Ended-clause-progress : goal.returns-in-Ended-clause-progress
returns-in-Ended-clause-progress g c =
    let m = g.A.Actor.meaning in
    let w = sim_of g.S.Sieve.keeps c.loop-ending.self in
    let x = sim_of g.S.Sieve.keeps c.diasca.new.self in
    let did = c.in_ok-diasca.ensures in
    let one = steps_by m g.S.Sieve.keeps c.loop-ending.self c.diasca.new.self c.in_ok-diasca.field-0 (went.Ended c.in-Ended.ending) c.in-Ended.is
    did.stands did.step did.leads did.parameters did.given did.keeps did.ended did.stays_lost in
    λ s k h. ends x _ c.in-Ended.ending (to_end m w x c.in-Ended.ending one) h.stage
