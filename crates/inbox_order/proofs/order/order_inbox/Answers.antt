use Rattle.std.proofs.Common.{◌≡◌, ◌∙◌, ap, sym, arith}
use Rattle.std.proofs.lemmas.List.{with_items_is}
use Rattle.actor_trait.specs.InboxOrder.{in_order}
use Rattle.inbox_order.proofs.Arrival.{same_order}
use Rattle.inbox_order.proofs.Crowding.{in_order_alone}
use Rattle.inbox_order.proofs.order.order_inbox.Goals as goal

pub returns-then-len-lt2-clause-order : goal.returns-then-len-lt2-clause-order
returns-then-len-lt2-clause-order c = sym (in_order_alone c.args.precedence.now c.args.letters (omega arith))

pub returns-then-len-lt2-clause-arrival : goal.returns-then-len-lt2-clause-arrival
returns-then-len-lt2-clause-arrival c = λ distinct to one others perm.
    sym (in_order_alone c.args.precedence.now c.args.letters (omega arith)) ∙ same_order c.args.precedence.now to c.args.letters others distinct one perm

pub returns-clause-arrival : goal.returns-clause-arrival
returns-clause-arrival c = λ distinct to one others perm.
    let ordered : c.of.result ≡ in_order c.args.precedence.now c.args.letters =
    c.of.ensures ∙ with_items_is c.into_vec-letters.result c.put_in_order.new.letters (c.put_in_order.auto.letters ∙ c.as_mut_slice.ensures.len)
    ∙ c.in_ok-put_in_order.ensures ∙ ap (in_order c.args.precedence.now) (c.as_mut_slice.ensures.value ∙ c.into_vec-letters.ensures) in
    ordered ∙ same_order c.args.precedence.now to c.args.letters others distinct one perm
