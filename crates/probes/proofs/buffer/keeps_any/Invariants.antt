use Rattle.std.proofs.Common.{◌≡◌, [], take}
use Rattle.probes.specs.Kept.{kept_by}
use Rattle.probes.proofs.buffer.keeps_any.Given as goal

abbrev pub invariant-loop-sample : goal.invariant-loop-sample
invariant-loop-sample g l = kept_by (g.S.Sieve.keeps l.sieve) l.id (take l.sample-index l.samples) ≡ []
