use Rattle.std.proofs.Common.{◌≡◌, ◌++◌, [], drop, map, take}
use Rattle.tick_advance.proofs.log.clear_all.Given as goal

abbrev pub invariant-loop-buffer : goal.invariant-loop-buffer
invariant-loop-buffer l = l.buffer-items ≡ map (λ _. []) (take l.buffer-index l.initial.buffer-items) ++ drop l.buffer-index l.initial.buffer-items
