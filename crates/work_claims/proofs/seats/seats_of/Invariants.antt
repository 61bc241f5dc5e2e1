use Rattle.std.proofs.Common.{◌≡◌, length, map}
use Rattle.work_claims.proofs.seats.seats_of.Given as goal

abbrev pub invariant-loop-hand : goal.invariant-loop-hand
invariant-loop-hand l = record {
  numbered : l.number ≡ length l.yielded;
  hands : map (λ s. s.hand) l.seats.items ≡ l.yielded;
}
