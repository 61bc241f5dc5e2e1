use Rattle.std.proofs.Common.{◌≡◌, ◌+◌, ◌≤◌}
use Rattle.inbox_store.specs.Letters.{top_of}
use Rattle.storage_cost.proofs.letters.put_all.Given as goal

abbrev pub invariant-loop-serial : goal.invariant-loop-serial
invariant-loop-serial l = record {
  room : l.count ≤ l.store.spare + l.serial;
  top : top_of l.store ≡ top_of l.initial.store;
}
