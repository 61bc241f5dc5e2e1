use Rattle.std.proofs.Common.{◌≡◌, ◌≤◌, ◌&&◌, nat_eq, take, drop}
use Rattle.std.specs.List.{All, list_any}
use Rattle.sim_base.specs.declared.ids.ActorId.{ActorId}
use Rattle.sim_model.specs.Moment.{is_alive, is_among}
use Rattle.sim_model.specs.Setups.{Ascend}
use Rattle.local_manager.proofs.called.creators_of.Given as goal

abbrev pub invariant-loop-letter : goal.invariant-loop-letter
invariant-loop-letter g l = record {
  ascending : Ascend l.ids.items;
  before : All (λ c. All (λ k. c.0 ≤ k.to.0) (drop l.letter-index l.told)) l.ids.items;
  each : (id : ActorId) → is_among l.ids.items id ≡ (is_alive l.states id && list_any (λ k. nat_eq k.to.0 id.0) (take l.letter-index l.told));
}
