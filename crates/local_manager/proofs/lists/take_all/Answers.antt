use Rattle.std.proofs.Common.{[]}
use Rattle.local_manager.proofs.Sharing.{empty_still, have_room, on_err}
use Rattle.local_manager.proofs.lists.take_all.Goals as goal

pub take_each-requires-clause-rooms : goal.take_each-requires-clause-rooms
take_each-requires-clause-rooms g c =
    have_room c.args.tick c.args.domains.now c.clear_all.new.lists c.reserve_due.new.lists c.reserve_due.ensures.same
    (c.clear_all.ensures.empty []) c.in_ok-reserve_due.ensures.room

pub returns-in_err-reserve_due-clause-empty : goal.returns-in_err-reserve_due-clause-empty
returns-in_err-reserve_due-clause-empty g c =
    on_err c.from_residual.result (λ homes. empty_still homes c.clear_all.new.lists c.reserve_due.new.lists c.reserve_due.ensures.same
    (c.clear_all.ensures.empty homes))
