use Rattle.quiet_core.proofs.Lawful.{is_allowed, is_not_refused}
use Rattle.quiet_core.proofs.laws.no_other_condition.Goals as goal

pub returns : goal.returns
returns c = λ t s m. (is_allowed t s m, is_not_refused t s m)
