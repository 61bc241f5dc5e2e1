use Rattle.std.proofs.Common.{◌≡◌}
use Rattle.inbox_order.proofs.inboxes.Inboxes.renew.Goals as goal

pub returns-clause-inboxes : goal.returns-clause-inboxes
returns-clause-inboxes c =
    let copied : c.extend_from_slice.new.self.items ≡ c.args.letters.now = rw c.take_room-all.ensures.empty at c.in_ok-extend_from_slice.ensures.items in
    rw (← copied) c.renew_with.ensures.inboxes
