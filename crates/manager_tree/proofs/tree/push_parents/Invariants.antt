use Rattle.std.proofs.Common.{◌≡◌, ◌+◌, ◌/◌, ◌++◌, map}
use Rattle.std.specs.List.{range_with_len}
use Rattle.manager_tree.proofs.tree.push_parents.Given as goal

abbrev pub invariant-loop-place : goal.invariant-loop-place
invariant-loop-place l = l.parents.items ≡ l.initial.parents.items ++ map (λ place. l.next + place / l.fanout) (range_with_len 0 l.place)
