use Rattle.std.proofs.Common.{◌∙◌, rules, sym}
use Rattle.inbox_order.proofs.Indexing.{index_known, index_new}
use Rattle.inbox_order.proofs.index.Index.renewed.Goals as goal
use Rattle.inbox_order.proofs.index.Index.renewed.Goals.{else-not-ends_with, then-not-ends_with+in_ok-push+in_ok-push-2}

pub loop-at-preserved : goal.loop-at-preserved
loop-at-preserved c =
    let told = rw c.deref.ensures.value at c.ends_with.ensures in
    elim c.if-not-ends_with.branch [
      | then-not-ends_with+in_ok-push+in_ok-push-2 w ↦
          let new = index_new _ _ _ _ _ c.requires c.loop-at-test.true c.loop-at.invariant (sym told ∙ search rules) in
          rw (w.recipients-is, w.starts-is, w.in_ok-push.ensures.items, w.in_ok-push-2.ensures.items) new
      | else-not-ends_with w ↦
          rw (w.recipients-is, w.starts-is) (index_known _ _ _ _ _ c.requires c.loop-at-test.true c.loop-at.invariant (sym told ∙ search rules))
    ]
