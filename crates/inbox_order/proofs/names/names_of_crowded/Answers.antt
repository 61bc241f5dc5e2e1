use Rattle.std.proofs.Common.{arith}
use Rattle.inbox_order.proofs.Crowding.{names_all, names_more}
use Rattle.inbox_order.proofs.names.names_of_crowded.Goals as goal

pub loop-start-preserved : goal.loop-start-preserved
loop-start-preserved c =
    let run = c.run_of.ensures in
    names_more c.args.letters.now _ _ _ _ _ c.loop-start.invariant.0
    (record { some = run.some; within = run.within; same = run.same; next = run.next }) (omega arith) c.loop-start.invariant.1 c.in_ok-push_group.ensures

pub returns : goal.returns
returns c = names_all c.args.letters.now c.loop-start.start _ (omega arith) c.loop-start.invariant.1
