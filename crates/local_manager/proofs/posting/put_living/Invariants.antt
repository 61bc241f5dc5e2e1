use Rattle.std.proofs.Common.{◌≡◌, ◌≤◌, ◌+◌, ◌++◌, [], if◌then◌else◌, not, take}
use Rattle.std.specs.List.{count_by, filter}
use Rattle.sim_base.specs.declared.ids.ActorId.{ActorId}
use Rattle.actor_trait.specs.InboxOrder.{is_to}
use Rattle.inbox_store.specs.Letters.{list_of, top_of}
use Rattle.sim_model.specs.Moment.{is_alive}
use Rattle.local_manager.proofs.posting.put_living.Given as goal

abbrev pub invariant-loop-letter : goal.invariant-loop-letter
invariant-loop-letter g l = record {
  lists : (to : ActorId) → list_of l.store to.0 ≡ list_of l.fn.store to.0
      ++ (if is_alive l.states to then filter (is_to to) (take l.letter-index l.letters) else []);
  room : l.fn.store.spare ≤ l.store.spare + l.letter-index;
  top : top_of l.store ≡ top_of l.fn.store;
  dead : l.dead ≡ count_by (λ k. not (is_alive l.states k.to)) (take l.letter-index l.letters);
  few : l.dead ≤ l.letter-index;
}
