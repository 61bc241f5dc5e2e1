use Rattle.std.proofs.Common.{◌∙◌}
use Rattle.inbox_order.proofs.Arrival.{same_inbox}
use Rattle.inbox_order.proofs.inboxes.Inboxes.of.Goals as goal

pub returns-clause-arrival : goal.returns-clause-arrival
returns-clause-arrival c = λ distinct others perm to.
    c.in_ok-renew.ensures.inboxes to ∙ same_inbox c.args.precedence.now to c.args.letters.now others distinct perm
