use Rattle.std.proofs.Common.{arith, rules, ◌<◌, length, append_assoc}
use Rattle.inbox_store.proofs.Fronts.{inside_here, inside_more, letters_more}
use Rattle.inbox_store.proofs.chains.copy_out.Goals as goal

pub bounds-nodes-at : goal.bounds-nodes-at
bounds-nodes-at c = inside_here c.args.nodes.now c.loop-left.left c.loop-left.at c.loop-left-test.true c.loop-left.invariant.inside

pub bounds-nodes-at-in-loop-left : goal.bounds-nodes-at-in-loop-left
bounds-nodes-at-in-loop-left c = inside_here c.args.nodes.now c.loop-left.left c.loop-left.at c.loop-left-test.true c.loop-left.invariant.inside

pub loop-left-preserved : goal.loop-left-preserved
loop-left-preserved c = record {
  inside = inside_more c.args.nodes.now c.loop-left.left c.loop-left.at c.loop-left-test.true c.loop-left.invariant.inside;
  taken = rw (c.add.ensures.list, append_assoc) (rw (letters_more c.args.nodes.now c.loop-left.left c.loop-left.at c.loop-left-test.true) at c.loop-left.invariant.taken);
  spare = omega arith;
}

pub offset_bounds-nodes-at : goal.offset_bounds-nodes-at
offset_bounds-nodes-at c =
    let within : c.loop-left.at < length c.args.nodes.now =
    inside_here c.args.nodes.now c.loop-left.left c.loop-left.at c.loop-left-test.true c.loop-left.invariant.inside in
    search rules
