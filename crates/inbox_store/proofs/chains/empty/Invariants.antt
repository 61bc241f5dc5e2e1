use Rattle.std.proofs.Common.{◌≡◌, ◌≢◌, ℕ, ◌+◌, length}
use Rattle.inbox_store.specs.Chains.{chain_of, newest, IsSound}
use Rattle.inbox_store.proofs.chains.empty.Given as goal

abbrev pub invariant-loop-nodes : goal.invariant-loop-nodes
invariant-loop-nodes l = record {
  sound : IsSound l.nodes.items l.chains.items;
  others : (c : ℕ) → c ≢ 0 → c ≢ l.list → newest l.nodes.items l.chains.items c ≡ newest l.initial.nodes.items l.initial.chains.items c;
  free : (chain_of l.chains.items 0).count + (chain_of l.chains.items l.list).count ≡ (chain_of l.initial.chains.items 0).count + (chain_of l.initial.chains.items l.list).count;
  size : length l.chains.items ≡ length l.initial.chains.items;
  whole : length l.nodes.items ≡ length l.initial.nodes.items;
}

abbrev pub decreases-loop-nodes : goal.decreases-loop-nodes
decreases-loop-nodes l = (chain_of l.chains.items l.list).count
