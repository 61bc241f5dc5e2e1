use Rattle.std.proofs.Common.{length, ◌<◌, ◌-◌, arith, length-set, take, get_or, add-one}
use Rattle.std.proofs.Math.Seq.{take-suc}
use Rattle.std.proofs.lemmas.Option.{slice_get-get_or}
use Rattle.local_manager.proofs.Keeping.{below_at}
use Rattle.local_manager.proofs.Sharing.{split_shared}
use Rattle.local_manager.proofs.lists.share_out.Goals as goal

pub bounds-lists-m : goal.bounds-lists-m
bounds-lists-m c =
    let id = get_or c.args.ids.now c.loop-id.id-index (record { 0 = 0 }) in
    let fits = below_at (length c.args.lists.now) c.args.homes.now (id.0 - 1) c.requires.some c.requires.homes in
    rw c.home-m.ensures (omega (arith, fits, c.loop-id.invariant.long))

pub loop-id-preserved : goal.loop-id-preserved
loop-id-preserved c =
    let id = get_or c.args.ids.now c.loop-id.id-index (record { 0 = 0 }) in
    let fits = below_at (length c.args.lists.now) c.args.homes.now (id.0 - 1) c.requires.some c.requires.homes in
    let within : c.home-m.result < length c.loop-id.lists = rw c.home-m.ensures (omega (arith, fits, c.loop-id.invariant.long)) in
    let old = get_or c.loop-id.lists c.home-m.result c.index-lists-m.result in
    let is = slice_get-get_or c.loop-id.lists c.home-m.result c.index-lists-m.result within in
    record {
      long = simp length-set c.loop-id.invariant.long;
      split = rw (add-one, take-suc c.args.ids.now c.loop-id.id-index (record { 0 = 0 }) c.loop-id-test.true)
          (split_shared c.args.homes.now (take c.loop-id.id-index c.args.ids.now) c.loop-id.lists id c.home-m.result old c.push.new.list
          c.loop-id.invariant.split c.home-m.ensures is c.in_ok-push.ensures);
    }
