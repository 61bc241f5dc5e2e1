use Rattle.std.proofs.Common.{ap, subst, sym}
use Rattle.sim_model.specs.Setups.{IsSetup}
use Rattle.manager_tree.specs.Shape.{Shape}
use Rattle.tick_advance.specs.Log.{log_of}
use Rattle.tick_advance.specs.Standing.{StandsFor}
use Rattle.tick_advance.specs.declared.position.Position.TheVariants as position
use Rattle.tick_advance.proofs.Opening.{opening_sound, opening_stands}
use Rattle.tick_advance.proofs.sim.Sim.open.Goals as goal

pub invariant_of-result : goal.invariant_of-result
invariant_of-result g c =
    let world = c.in_ok-world.ensures in
    let plan = c.plan.invariant in
    opening_sound g.A.Actor.meaning c.args.setup c.plan.inside.managers _ c.plan.inside.workers c.plan.inside.policy (g.S.Sieve.keeps c.args.sieve) c.in_ok-world.world (log_of g.S.Sieve.keeps c.in_ok-log.log)
    (subst (λ s. IsSetup s) c.setup.view_is c.setup.invariant)
    (record { world = world.world; placed = world.placed; now = world.now; phase = world.phase; log = c.in_ok-log.ensures })
    (ap (λ (t : Shape). t.leaves) c.in_ok-tree.ensures.shape) plan.some_workers plan.most_workers

pub returns-clause-stands : goal.returns-clause-stands
returns-clause-stands g c =
    let world = c.in_ok-world.ensures in
    let start = position.Before (record { tick = 0; diasca = 0 }) in
    subst
    (λ r. StandsFor g.A.Actor.meaning c.args.setup 0 (record { world = c.in_ok-world.world; log = log_of g.S.Sieve.keeps c.in_ok-log.log; rounds = r; position = start }))
    (sym c.new-2.ensures)
    (opening_stands g.A.Actor.meaning c.args.setup c.plan.inside.managers c.plan.inside.policy (g.S.Sieve.keeps c.args.sieve) c.in_ok-world.world (log_of g.S.Sieve.keeps c.in_ok-log.log)
    (subst (λ s. IsSetup s) c.setup.view_is c.setup.invariant)
    (record { world = world.world; placed = world.placed; now = world.now; phase = world.phase; log = c.in_ok-log.ensures }))
