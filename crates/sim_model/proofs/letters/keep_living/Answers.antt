use Rattle.std.proofs.Common.{arith, rules, length, ap}
use Rattle.std.proofs.lemmas.Fn.{filter_same}
use Rattle.sim_model.specs.Moment.{is_alive}
use Rattle.sim_model.proofs.Lists.{left_out}
use Rattle.sim_model.proofs.letters.keep_living.Goals as goal

pub returns-clause-kept : goal.returns-clause-kept
returns-clause-kept g c = filter_same _ (λ l. is_alive c.args.states.now l.to) _ (λ l b f s. search rules) _ _ c.retain.ensures.filtered

pub returns-clause-dead : goal.returns-clause-dead
returns-clause-dead g c =
    let kept = filter_same _ (λ l. is_alive c.args.states.now l.to) _ (λ l b f s. search rules) _ _ c.retain.ensures.filtered in
    omega (arith, left_out (λ l. is_alive c.args.states.now l.to) c.args.letters.now.items, ap (λ l. length l) kept, c.len-all.ensures, c.len.ensures)
