use Rattle.std.proofs.Common.{◌≡◌, drop, None}
use Rattle.local_manager.specs.Directories.{earliest}
use Rattle.local_manager.proofs.lists.earliest_of.Given as goal

abbrev pub invariant-loop-domain : goal.invariant-loop-domain
invariant-loop-domain g l = earliest l.found (drop l.domain-index l.domains) ≡ earliest None l.domains
