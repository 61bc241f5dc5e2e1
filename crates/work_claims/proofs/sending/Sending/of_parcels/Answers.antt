use Rattle.std.proofs.Common.{arith, refl, length-set, ◌∙◌}
use Rattle.work_claims.proofs.Sends.{count_few, more_in_all, more_to, none_in_all, none_to}
use Rattle.work_claims.proofs.sending.Sending.of_parcels.Goals as goal

pub loop-parcel-init : goal.loop-parcel-init
loop-parcel-init g c = record {
  wide = refl;
  each = none_to;
  total = none_in_all (g.W.Scene.placed c.args.world.now).managers;
}

pub overflow_add-to : goal.overflow_add-to
overflow_add-to g c =
    let few = count_few c.loop-parcel.to c.route-home.result.0 (g.W.Scene.placed c.args.world.now).managers c.loop-parcel.parcel-index
    c.route-home.ensures.within c.loop-parcel.invariant.total in
    let most = c.requires in let lt = c.loop-parcel-test.true in let end = c.loop-parcel.auto.parcel-index-end in omega arith

pub loop-parcel-preserved : goal.loop-parcel-preserved
loop-parcel-preserved g c =
    let p = g.W.Scene.placed c.args.world.now in
    let to = c.loop-parcel.to in
    let few = c.managers-managers.ensures.few in let are = c.managers-managers.ensures.managers in
    let wide = c.loop-parcel.invariant.wide in let in_ = c.route-home.ensures.within in
    let lt = c.loop-parcel-test.true in let end = c.loop-parcel.auto.parcel-index-end in
    record {
      wide = length-set to c.route-home.result.0 _ ∙ wide;
      each = more_to p to c.args.parcels.now c.loop-parcel.parcel-index c.route-home.result.0 _ (omega arith) c.route-home.ensures.route (omega arith)
          c.loop-parcel.invariant.each;
      total = more_in_all p to c.args.parcels.now c.loop-parcel.parcel-index c.route-home.result.0 _ (omega arith) c.route-home.ensures.route (omega arith)
          p.managers in_ c.loop-parcel.invariant.total;
    }
