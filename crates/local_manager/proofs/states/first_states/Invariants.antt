use Rattle.std.proofs.Common.{◌≡◌, map, Some}
use Rattle.local_manager.proofs.states.first_states.Given as goal

abbrev pub invariant-loop-start : goal.invariant-loop-start
invariant-loop-start g l = l.states.items ≡ map (λ a. Some a.state) l.yielded
