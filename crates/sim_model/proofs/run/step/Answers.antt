use Rattle.sim_model.specs.Moment.{enter}
use Rattle.sim_model.specs.Run.{step}
use Rattle.sim_model.proofs.Acting.{are_reports}
use Rattle.sim_model.proofs.Keeping.{enter_whole}
use Rattle.sim_model.proofs.run.step.Goals as goal

pub judge-requires-clause-whole : goal.judge-requires-clause-whole
judge-requires-clause-whole g c = rw c.in_ok-enter.ensures.entered
    (enter_whole g.A.Actor.meaning c.args.underway.now.world c.args.underway.now.next c.requires.whole)

pub judge-requires-clause-ascending : goal.judge-requires-clause-ascending
judge-requires-clause-ascending g c =
    let whole = enter_whole g.A.Actor.meaning c.args.underway.now.world c.args.underway.now.next c.requires.whole in
    let told = rw c.in_ok-enter.ensures.entered at c.in_ok-reports.ensures in
    rw told ((are_reports g.A.Actor.meaning g.met.A.Actor.lawful
    (enter c.args.underway.now.world c.args.underway.now.next) c.args.underway.now.next whole.scheduled whole.cast.fits).ascend)

pub returns : goal.returns
unfolding step
returns g c =
    let told = rw c.in_ok-enter.ensures.entered at c.in_ok-reports.ensures in
    rw (c.in_ok-enter.ensures.entered, told) at c.judge.ensures
