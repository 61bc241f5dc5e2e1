use Rattle.std.proofs.Common.{◌≡◌, drop}
use Rattle.sim_model.specs.Moment.{is_among}
use Rattle.domain_tests.proofs.reporting.place_in.Given as goal

abbrev pub invariant-loop-other : goal.invariant-loop-other
invariant-loop-other l = (l.i ≡ l.other-index) × (is_among (drop l.other-index l.ids) l.id ≡ is_among l.ids l.id)
