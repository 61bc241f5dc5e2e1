-- The sieve that keeps all.
use Rattle.std.proofs.Common.{ℕ, Bool, true}
use Rattle.sim_base.specs.declared.ids.ActorId.{ActorId}
use Rattle.probes.specs.declared.sieve.KeepAll.{KeepAll}

abbrev pub keep_all : KeepAll → ActorId → ℕ → Bool
keep_all sieve actor probe = true
