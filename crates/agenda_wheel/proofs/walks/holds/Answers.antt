use Rattle.std.proofs.Common.{refl, arith}
use Rattle.agenda_wheel.proofs.Finding.{steps_below, not_found}
use Rattle.agenda_wheel.proofs.walks.holds.Goals as goal

pub overflow_add-steps : goal.overflow_add-steps
overflow_add-steps c =
    let k = steps_below c.args.nodes.now c.args.actors.now c.args.due.actor.0 c.requires.linked c.requires.small c.loop-at.steps c.loop-at.at
    c.loop-at.invariant.place c.loop-at-test.true c.loop-at.invariant.real in
    omega (arith, k, c.requires.small)

pub loop-at-smaller : goal.loop-at-smaller
loop-at-smaller c =
    let k = steps_below c.args.nodes.now c.args.actors.now c.args.due.actor.0 c.requires.linked c.requires.small c.loop-at.steps c.loop-at.at
    c.loop-at.invariant.place c.loop-at-test.true c.loop-at.invariant.real in
    omega (arith, k)

pub returns-clause-absent : goal.returns-clause-absent
returns-clause-absent c =
    λ e. not_found c.args.nodes.now c.args.actors.now c.args.due.actor.0 c.requires.linked c.requires.small c.loop-at.steps c.loop-at.at
    c.args.due refl c.loop-at.invariant.place c.loop-at-test.false c.loop-at.invariant.others
