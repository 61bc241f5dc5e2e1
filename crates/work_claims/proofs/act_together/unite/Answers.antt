use Rattle.std.proofs.Common.{◌+◌, ◌++◌, ◌∷◌, ◌||◌, [], List, length, length-append, ap, subst, sym, ◌∙◌, arith}
use Rattle.std.specs.List.{All}
use Rattle.std.specs.Vec.Iter.{into_iter_items}
use Rattle.sim_model.specs.declared.report.Report.{Report}
use Rattle.work_claims.specs.Together.{Worked}
use Rattle.work_claims.proofs.Uniting.{all_step, worked_is, worked_united}
use Rattle.work_claims.proofs.act_together.unite.Goals as goal

pub loop-acted-init : goal.loop-acted-init
loop-acted-init g c =
    let gives = c.into_iter-acted-iterator.ensures.into_iter_gives in
    let count = gives.1 in
    record {
      worked = rw c.into_vec-reports.ensures c.requires.first;
      rest = subst (λ l. All (Worked g.A.Actor.meaning (g.W.Scene.placed c.args.world.now) c.args.round.now 1) l) (sym gives.0) c.requires.others;
      count = omega arith;
    }

pub unite-requires : goal.unite-requires
unite-requires g c =
    let rest = all_step (Worked g.A.Actor.meaning (g.W.Scene.placed c.args.world.now) c.args.round.now 1) _ c.in-Some.acted
    (into_iter_items c.next.new.self) c.in-Some.ensures.steps.0 c.loop-acted.invariant.rest in
    record { of = (c.loop-acted.invariant.worked.of, rest.0.of) }

pub loop-acted-preserved : goal.loop-acted-preserved
loop-acted-preserved g c =
    let m = g.A.Actor.meaning in
    let p = g.W.Scene.placed c.args.world.now in
    let r = c.args.round.now in
    let rest = all_step (Worked m p r 1) _ c.in-Some.acted (into_iter_items c.next.new.self) c.in-Some.ensures.steps.0 c.loop-acted.invariant.rest in
    let joined = worked_united m p r.shape c.requires.fits r (1 + length c.loop-acted.yielded) 1
    (record { hand = c.loop-acted.hand; reports = c.loop-acted.reports.items; short = c.loop-acted.short }) c.in-Some.acted c.unite.new.hand
    c.unite.ensures.apart c.unite.ensures.joined c.loop-acted.invariant.worked rest.0 in
    let grown = length-append c.loop-acted.yielded (c.in-Some.acted ∷ []) in
    let step = c.in-Some.ensures.steps.1 in
    let count = c.loop-acted.invariant.count in
    record {
      worked = worked_is m p r _ _ _ _ (omega arith)
          (ap (λ (l : List (Report g.row.A.Denot)). record { hand = c.unite.new.hand; reports = l; short = c.loop-acted.short || c.in-Some.acted.short })
          (sym (c.in_ok-append.ensures.items ∙ ap (λ (l : List (Report g.row.A.Denot)). c.loop-acted.reports.items ++ l) c.into_vec.ensures))) joined;
      rest = rest.1;
      count = omega arith;
    }

pub returns : goal.returns
returns g c =
    let count = c.loop-acted.invariant.count in
    let none = c.in-None.ensures.steps.0 in
    worked_is g.A.Actor.meaning (g.W.Scene.placed c.args.world.now) c.args.round.now _ _ _ _ (omega arith)
    (ap (λ (l : List (Report g.row.A.Denot)). record { hand = c.loop-acted.hand; reports = l; short = c.loop-acted.short }) (sym c.of.ensures))
    c.loop-acted.invariant.worked
