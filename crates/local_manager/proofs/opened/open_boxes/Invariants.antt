use Rattle.std.proofs.Common.{◌≡◌, [], if◌then◌else◌, length, take}
use Rattle.sim_base.specs.declared.ids.ActorId.{ActorId}
use Rattle.actor_trait.specs.InboxOrder.{in_order}
use Rattle.inbox_order.specs.Inboxes.{inbox_of}
use Rattle.inbox_store.specs.Letters.{list_of}
use Rattle.sim_model.specs.Moment.{is_among}
use Rattle.local_manager.specs.Mail.{IsIndexed}
use Rattle.local_manager.proofs.opened.open_boxes.Given as goal

abbrev pub invariant-loop-to : goal.invariant-loop-to
invariant-loop-to l = record {
  inboxes : (to : ActorId) → inbox_of l.opened.list to
      ≡ (if is_among (take l.to-index l.called) to then in_order l.precedence (list_of l.fn.store to.0) else []);
  left : (to : ActorId) → list_of l.store to.0 ≡ (if is_among (take l.to-index l.called) to then [] else list_of l.fn.store to.0);
  indexed : IsIndexed l.opened.list l.spans;
  long : length l.spans ≡ length l.fn.spans;
}
