use Rattle.std.proofs.Common.{get_or, arith, refl}
use Rattle.work_claims.proofs.Publishes.{raised, posted_or_not, next_owed, none_owed, grew_none}
use Rattle.work_claims.proofs.publishing.publish.Goals as goal

pub loop-n-init : goal.loop-n-init
loop-n-init c = record {
  of = c.raise.ensures.of;
  done = rw c.raise.ensures.raised (raised c.args.hand.now.account c.args.m.0 c.args.i c.args.sending.now.total (λ j. get_or c.args.sending.now.to j 0));
}

pub post_some-requires-clause-owed : goal.post_some-requires-clause-owed
post_some-requires-clause-owed c = let t = c.loop-n-test.true in let w = c.managers-managers.ensures.managers in
    next_owed c.args.hand.now.account c.loop-n.hand.account c.args.m.0 c.args.i c.args.sending.now.total (λ j. get_or c.args.sending.now.to j 0)
    c.managers-managers.result c.loop-n.n (omega arith) (rw w c.requires.total) c.loop-n.invariant.done

pub loop-n-preserved : goal.loop-n-preserved
loop-n-preserved c = let t = c.loop-n-test.true in let w = c.managers-managers.ensures.managers in record {
  of = c.post_some.ensures.of;
  done = posted_or_not c.args.hand.now.account c.loop-n.hand.account _ c.args.m.0 c.args.i c.args.sending.now.total
      (λ j. get_or c.args.sending.now.to j 0) c.loop-n.n _ refl
      (next_owed c.args.hand.now.account c.loop-n.hand.account c.args.m.0 c.args.i c.args.sending.now.total (λ j. get_or c.args.sending.now.to j 0)
      c.managers-managers.result c.loop-n.n (omega arith) (rw w c.requires.total) c.loop-n.invariant.done)
      c.loop-n.invariant.done c.post_some.ensures.some c.post_some.ensures.none;
}

pub returns-after-loop-n-clause-owed : goal.returns-after-loop-n-clause-owed
returns-after-loop-n-clause-owed c =
    let t = c.loop-n-test.false in let e = c.loop-n.auto.n-end in let w = c.managers-managers.ensures.managers in
    none_owed c.args.hand.now.account c.loop-n.hand.account c.args.m.0 c.args.i c.args.sending.now.total (λ j. get_or c.args.sending.now.to j 0)
    c.managers-managers.result c.loop-n.n (omega arith) (rw w c.requires.total) c.loop-n.invariant.done

pub returns-else-sending-gt0-clause-grew : goal.returns-else-sending-gt0-clause-grew
returns-else-sending-gt0-clause-grew c = let t = c.if-sending-gt0.false in let e = c.requires.total in
    grew_none c.args.hand.now.account c.args.m.0 (λ n. get_or c.args.sending.now.to n 0) _ (omega arith)
