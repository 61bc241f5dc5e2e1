use Rattle.std.proofs.Common.{arith, rules, not}
use Rattle.std.proofs.lemmas.Bool.Decides.{nat_tests}
use Rattle.std.proofs.lemmas.Fn.{filter_same}
use Rattle.sim_model.specs.Moment.{is_among}
use Rattle.sim_model.proofs.Dues.{all_kept_by}
use Rattle.sim_model.proofs.due_set.drop_dues.Goals as goal

pub returns-then-is_empty : goal.returns-then-is_empty
returns-then-is_empty c = all_kept_by c.args.actors.now c.args.dues.now.keys (grind (arith, nat_tests, c.if-is_empty.true, c.is_empty.ensures))

pub returns : goal.returns
returns c = filter_same _ (λ d. not (is_among c.args.actors.now d.actor)) _ (λ d b f' k. search rules) _ _ c.retain.ensures.filtered
