use Rattle.std.proofs.Common.{◌≡◌, ◌+◌, ◌*◌, ◌++◌, map}
use Rattle.std.specs.List.{range_with_len}
use Rattle.manager_tree.proofs.tree.push_begins.Given as goal

abbrev pub invariant-loop-place : goal.invariant-loop-place
invariant-loop-place l = l.begins.items ≡ l.initial.begins.items ++ map (λ place. l.first + place * l.fanout) (range_with_len 0 l.place)
