use Rattle.std.proofs.Common.{◌≡◌, ◌∙◌, List, ap}
use Rattle.std.specs.List.{flat_map}
use Rattle.sim_base.specs.declared.ids.ActorId.{ActorId}
use Rattle.actor_trait.specs.declared.letter.Letter.{Letter}
use Rattle.actor_trait.specs.InboxOrder.{is_to}
use Rattle.inbox_order.specs.Inboxes.{inbox_of}
use Rattle.inbox_order.proofs.Joining.{filter-flat_map, ok_then}
use Rattle.inbox_order.proofs.inboxes.Inboxes.join.Goals as goal

pub returns-clause-inboxes : goal.returns-clause-inboxes
returns-clause-inboxes c =
    let joined : (to : ActorId) → inbox_of c.in_ok-all.all.items to ≡ flat_map (λ (part : List Letter). inbox_of part to) c.args.parts = λ to.
    ap (λ (y : List Letter). inbox_of y to) c.in_ok-all.ensures ∙ filter-flat_map (is_to to) c.args.parts in
    ok_then c.indexed.result (λ x. x ≡ c.sort_by_recipient.new.letters.items)
    (λ x. (to : ActorId) → inbox_of x to ≡ flat_map (λ (part : List Letter). inbox_of part to) c.args.parts)
    (λ x e to. ap (λ (y : List Letter). inbox_of y to) e ∙ c.in_ok-sort_by_recipient.ensures.same to ∙ joined to) c.indexed.ensures.same
