use Rattle.inbox_order.proofs.Finding.{has_letter, ids_ascend, is_recipient}
use Rattle.inbox_order.proofs.inboxes.Inboxes.recipients.Goals as goal

pub returns-clause-ascending : goal.returns-clause-ascending
returns-clause-ascending c = rw c.deref.ensures.value (ids_ascend _ _ _ c.self.invariant.1)

pub returns-clause-each : goal.returns-clause-each
returns-clause-each c = rw (← c.self.view_is, c.deref.ensures.value) (λ to. (has_letter _ _ _ to c.self.invariant.1, is_recipient _ _ _ to c.self.invariant.1))
