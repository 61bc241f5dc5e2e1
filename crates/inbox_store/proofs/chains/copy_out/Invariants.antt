use Rattle.std.proofs.Common.{◌≡◌, ℕ, ◌+◌, ◌<◌, ◌++◌, length}
use Rattle.inbox_store.specs.Chains.{walk, letters_at, IsIn}
use Rattle.inbox_store.proofs.chains.copy_out.Given as goal

abbrev pub invariant-loop-left : goal.invariant-loop-left
invariant-loop-left l = record {
  inside : (x : ℕ) → IsIn x (walk l.nodes l.left l.at) → x < length l.nodes;
  taken : l.into.list ++ letters_at l.nodes (walk l.nodes l.left l.at) ≡ l.initial.into.list ++ letters_at l.nodes (walk l.nodes l.fn.chain.count l.fn.chain.head);
  spare : l.into.spare + l.fn.chain.count ≡ l.initial.into.spare + l.left;
}

abbrev pub decreases-loop-left : goal.decreases-loop-left
decreases-loop-left l = l.left
