use Rattle.std.proofs.Common.{◌++◌, ◌||◌, Bool, ap, ◌∙◌}
use Rattle.sim_model.specs.Moment.{in_order_once, is_among}
use Rattle.sim_model.proofs.Merging.{once_ascends}
use Rattle.local_manager.proofs.Creators.{called_among}
use Rattle.local_manager.proofs.called.put_called.Goals as goal

pub merge_ids-requires-2-clause-others : goal.merge_ids-requires-2-clause-others
merge_ids-requires-2-clause-others g c =
    let others = rw (c.new-others.ensures.items, c.deref.ensures.value) at c.in_ok-merge_ids.ensures in
    rw (c.deref-2.ensures.value, others) (once_ascends (c.put_recipients.new.ids.items ++ c.args.creators.now))

pub returns-clause-ascending : goal.returns-clause-ascending
returns-clause-ascending g c =
    let others = rw (c.new-others.ensures.items, c.deref.ensures.value) at c.in_ok-merge_ids.ensures in
    let called = rw (c.clear.ensures.items, c.deref-2.ensures.value, others) at c.in_ok-merge_ids-2.ensures in
    rw called (once_ascends (c.args.newborn.now ++ in_order_once (c.put_recipients.new.ids.items ++ c.args.creators.now)))

pub returns-clause-each : goal.returns-clause-each
returns-clause-each g c =
    let others = rw (c.new-others.ensures.items, c.deref.ensures.value) at c.in_ok-merge_ids.ensures in
    let called = rw (c.clear.ensures.items, c.deref-2.ensures.value, others) at c.in_ok-merge_ids-2.ensures in
    rw called (λ id. called_among c.args.newborn.now c.put_recipients.new.ids.items c.args.creators.now id
    ∙ ap (λ (b : Bool). is_among c.args.newborn.now id || (b || is_among c.args.creators.now id)) (c.in_ok-put_recipients.ensures.each id))
