use Rattle.std.proofs.Common.{◌≤◌, ◌*◌}
use Rattle.work_claims.proofs.acting.share_of.Given as goal

abbrev pub invariant-loop-m : goal.invariant-loop-m
invariant-loop-m l = l.scheduled ≤ l.m * 1000000
