use Rattle.inbox_order.proofs.Finding.{not_found, range_some, run_at, searchable}
use Rattle.inbox_order.proofs.index.Index.search.Goals as goal

pub returns-in-Ok-clause-ordered : goal.returns-in-Ok-clause-ordered
returns-in-Ok-clause-ordered c =
    range_some _ _ _ _ (run_at _ _ _ _ _ _ _ _ c.requires c.deref.ensures.value c.in-Ok.ensures.bound c.in-Ok.ensures.ok c.index.ensures c.end_of.ensures)

pub returns-in-Ok-clause-within : goal.returns-in-Ok-clause-within
returns-in-Ok-clause-within c =
    (run_at _ _ _ _ _ _ _ _ c.requires c.deref.ensures.value c.in-Ok.ensures.bound c.in-Ok.ensures.ok c.index.ensures c.end_of.ensures).within

pub returns-in-Ok-clause-all : goal.returns-in-Ok-clause-all
returns-in-Ok-clause-all c =
    (run_at _ _ _ _ _ _ _ _ c.requires c.deref.ensures.value c.in-Ok.ensures.bound c.in-Ok.ensures.ok c.index.ensures c.end_of.ensures).all

pub returns-in-Err-clause-all : goal.returns-in-Err-clause-all
returns-in-Err-clause-all c =
    not_found _ _ _ _ c.args.to c.requires (rw c.deref.ensures.value at c.in-Err.ensures.position (searchable _ _ _ c.args.to c.requires))
