use Rattle.std.proofs.Common.{sym, ◌∙◌, append-nil}
use Rattle.sim_model.proofs.Rising.{takes_none}
use Rattle.sim_model.proofs.due_set.DueSet.take.Goals as goal

pub returns-clause-ids : goal.returns-clause-ids
returns-clause-ids c =
    let none = takes_none c.args.tick c.loop-actor.self c.loop-actor.invariant.0 (sym c.take_first_at.ensures.actor ∙ c.in_default.is) in
    let all = rw (none.due, append-nil) at c.loop-actor.invariant.1 in
    all

pub returns-clause-rest : goal.returns-clause-rest
returns-clause-rest c =
    let none = takes_none c.args.tick c.loop-actor.self c.loop-actor.invariant.0 (sym c.take_first_at.ensures.actor ∙ c.in_default.is) in
    c.take_first_at.ensures.rest ∙ none.rest ∙ sym none.without ∙ c.loop-actor.invariant.2
