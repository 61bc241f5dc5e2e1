use Rattle.inbox_order.proofs.Finding.{range_some, run_near}
use Rattle.inbox_order.proofs.index.Index.range.Goals as goal

pub returns-in-Some-clause-ordered : goal.returns-in-Some-clause-ordered
returns-in-Some-clause-ordered c =
    range_some _ _ _ _ (run_near _ _ _ _ _ _ _ _ _ c.requires c.deref.ensures.value c.in-Some.ensures.lookup.3.0 c.in-Some.ensures.lookup.1
    c.if-recipient-to.true c.index.ensures c.end_of.ensures)

pub returns-in-Some-clause-within : goal.returns-in-Some-clause-within
returns-in-Some-clause-within c =
    (run_near _ _ _ _ _ _ _ _ _ c.requires c.deref.ensures.value c.in-Some.ensures.lookup.3.0 c.in-Some.ensures.lookup.1
    c.if-recipient-to.true c.index.ensures c.end_of.ensures).within

pub returns-in-Some-clause-all : goal.returns-in-Some-clause-all
returns-in-Some-clause-all c =
    (run_near _ _ _ _ _ _ _ _ _ c.requires c.deref.ensures.value c.in-Some.ensures.lookup.3.0 c.in-Some.ensures.lookup.1
    c.if-recipient-to.true c.index.ensures c.end_of.ensures).all
