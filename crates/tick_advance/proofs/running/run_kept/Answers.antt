use Rattle.std.proofs.Common.{sym, ◌∙◌}
use Rattle.tick_advance.specs.Standing.{sim_of}
use Rattle.tick_advance.proofs.Passing.{fewer_in_run, has_come_to_end, tick_more}
use Rattle.tick_advance.proofs.running.run_kept.Goals as goal

pub results-requires : goal.results-requires
results-requires g c =
    let m = g.A.Actor.meaning in
    let at = c.loop-sim.invariant.somewhere in
    let next = tick_more m c.args.setup at.moments (sim_of g.S.Sieve.keeps c.tick.new.self) (c.in_ok-tick.ensures.stands c.args.setup at.moments at.stands) in
    record {
      over = (
        c.in-Ended.field-0,
        has_come_to_end m c.args.setup next.moments (sim_of g.S.Sieve.keeps c.tick.new.self) c.in-Ended.field-0 next.stands
            (sym c.in-Ended.is ∙ c.in_ok-tick.ensures.progress c.args.setup next.moments next.stands),
      );
    }

pub loop-sim-smaller : goal.loop-sim-smaller
loop-sim-smaller g c =
    let m = g.A.Actor.meaning in
    let at = c.loop-sim.invariant.somewhere in
    let did = c.in_ok-tick.ensures in
    fewer_in_run m c.args.setup at.moments (sim_of g.S.Sieve.keeps c.loop-sim.sim) (sim_of g.S.Sieve.keeps c.tick.new.self) c.in_ok-tick.field-0 at.stands c.in_default.is
    (λ e over. let same = (did.ended e over).0 in cc) (λ n h. did.progress c.args.setup n h) (did.stands c.args.setup at.moments at.stands)

pub loop-sim-preserved : goal.loop-sim-preserved
loop-sim-preserved g c =
    let at = c.loop-sim.invariant.somewhere in
    record {
      somewhere = tick_more g.A.Actor.meaning c.args.setup at.moments (sim_of g.S.Sieve.keeps c.tick.new.self) (c.in_ok-tick.ensures.stands c.args.setup at.moments at.stands);
      keeps = c.in_ok-tick.ensures.keeps ∙ c.loop-sim.invariant.keeps;
    }
