use Rattle.std.proofs.Common.{get_or-set_other, get_or-set_same, length-set, set, arith, ◌∙◌}
use Rattle.work_claims.proofs.Turning.{turned_next}
use Rattle.work_claims.proofs.turns.try_range.Goals as goal

pub loop-n-preserved : goal.loop-n-preserved
loop-n-preserved c =
    let mine = c.loop-n.mine in
    let n = c.loop-n.n in
    let b = c.try_turn.result in
    let wide = c.loop-n.invariant.wide in let lt = c.loop-n-test.true in let low = c.loop-n.auto.n in let end = c.loop-n.auto.n-end in
    let few = c.requires.few in let r0 = c.requires.range.0 in let r1 = c.requires.range.1 in
    record {
      of = c.try_turn.ensures.of;
      wide = length-set mine n b ∙ wide;
      turned = turned_next c.args.round.now.shape c.args.range.0 n c.args.mine mine (set mine n b) b c.args.hand.now.account c.loop-n.hand.account
          c.try_turn.new.hand.account (omega arith) c.loop-n.invariant.turned c.try_turn.ensures.turn c.try_turn.ensures.unacked c.try_turn.ensures.same
          c.try_turn.ensures.others c.try_turn.ensures.own (get_or-set_same mine n b _ (omega arith)) (λ k ne. get_or-set_other mine n k b _ ne);
    }
