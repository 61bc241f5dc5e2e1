use Rattle.local_manager.proofs.lists.share.Goals as goal

pub share_out-requires-clause-empty : goal.share_out-requires-clause-empty
share_out-requires-clause-empty c = c.clear_all.ensures.empty c.args.homes.now

pub returns-in-Err-clause-empty : goal.returns-in-Err-clause-empty
returns-in-Err-clause-empty c = c.clear_all-in-Err.ensures.empty c.args.homes.now
