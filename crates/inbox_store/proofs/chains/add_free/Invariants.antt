use Rattle.std.proofs.Common.{◌≡◌, ◌≢◌, ℕ, ◌+◌, length, vec_len, vec_capacity}
use Rattle.inbox_store.specs.Chains.{chain_of, newest, IsSound}
use Rattle.inbox_store.proofs.chains.add_free.Given as goal

abbrev pub invariant-loop : goal.invariant-loop
invariant-loop l = record {
  sound : IsSound l.nodes.items l.chains.items;
  others : (c : ℕ) → c ≢ 0 → newest l.nodes.items l.chains.items c ≡ newest l.initial.nodes.items l.initial.chains.items c;
  free : (chain_of l.chains.items 0).count ≡ (chain_of l.initial.chains.items 0).count + l.counter;
  size : length l.chains.items ≡ length l.initial.chains.items;
  len : vec_len l.nodes ≡ vec_len l.initial.nodes + l.counter;
  capacity : vec_capacity l.nodes ≡ vec_capacity l.initial.nodes;
}
