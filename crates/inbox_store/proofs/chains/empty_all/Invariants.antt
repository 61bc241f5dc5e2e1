use Rattle.std.proofs.Common.{◌≡◌, ◌≢◌, ℕ, ◌<◌, [], length}
use Rattle.inbox_store.specs.Chains.{newest, IsSound}
use Rattle.inbox_store.proofs.chains.empty_all.Given as goal

abbrev pub invariant-loop-used : goal.invariant-loop-used
invariant-loop-used l = record {
  sound : IsSound l.nodes.items l.chains.items;
  emptied : (c : ℕ) → c ≢ 0 → c < l.used → newest l.nodes.items l.chains.items c ≡ [];
  size : length l.chains.items ≡ length l.initial.chains.items;
  whole : length l.nodes.items ≡ length l.initial.nodes.items;
}
