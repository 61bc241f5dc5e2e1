use Rattle.std.proofs.Common.{◌∙◌, List, ap}
use Rattle.std.proofs.lemmas.List.{with_items_is}
use Rattle.actor_trait.specs.declared.letter.Letter.{Letter}
use Rattle.actor_trait.specs.InboxOrder.{in_order}
use Rattle.inbox_order.specs.Inboxes.{AreInboxesOf, inbox_of}
use Rattle.inbox_order.proofs.Joining.{ok_then}
use Rattle.inbox_order.proofs.inboxes.Inboxes.ordered.Goals as goal

pub returns-clause-inboxes : goal.returns-clause-inboxes
returns-clause-inboxes c =
    ok_then c.indexed.result _
    (λ x. AreInboxesOf x c.args.letters.items c.args.precedence.now)
    (λ x e to.
    ap (λ (y : List Letter). inbox_of y to)
    (e ∙ with_items_is c.sort_by_recipient.new.letters c.order_groups.new.letters (c.order_groups.auto.letters ∙ c.deref_mut.ensures.len))
    ∙ c.in_ok-order_groups.ensures.inboxes to
    ∙ ap (in_order c.args.precedence.now) (rw c.deref_mut.ensures.value (c.in_ok-sort_by_recipient.ensures.same to))) c.indexed.ensures.same
