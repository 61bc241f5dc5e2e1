use Rattle.std.proofs.Common.{◌≡◌, ◌∙◌, sym}
use Rattle.work_claims.proofs.Starting.{held_unless_err, tells_nothing}
use Rattle.work_claims.proofs.acting.act_in.Goals as goal

pub act_each-requires-clause-tells : goal.act_each-requires-clause-tells
act_each-requires-clause-tells g c =
    rw (c.of-reports.ensures ∙ c.reserve.ensures.items ∙ c.requires.room)
    (tells_nothing g.A.Actor.meaning (g.W.Scene.placed c.args.world.now) c.args.hand.account c.requires.new)

pub returns-clause-ended : goal.returns-clause-ended
returns-clause-ended g c = λ calm. held_unless_err c.act_each.result _ (sym c.is_err-short.ensures.value ∙ calm) c.act_each.ensures.ended
