use Rattle.std.proofs.Common.{ℕ, get_or, subst}
use Rattle.work_claims.specs.Acting.{Grew}
use Rattle.work_claims.specs.Letters.{sends_to}
use Rattle.work_claims.proofs.Telling.{all_others, now_reported, now_rests, tells_more, grew_still}
use Rattle.work_claims.proofs.acting.act_claimed.Goals as goal

pub returns-clause-others : goal.returns-clause-others
returns-clause-others g c = all_others c.args.hand.now.account c.publish.new.hand.account c.report_done.new.hand.account c.args.m.0 c.args.i
    c.requires.claimed c.publish.ensures.others c.report_done.ensures.marks

pub returns-clause-done : goal.returns-clause-done
returns-clause-done g c = now_reported c.args.hand.now.account c.publish.new.hand.account c.report_done.new.hand.account c.args.m.0 c.args.i
    c.requires.claimed c.publish.ensures.others c.report_done.ensures.marks

pub returns-clause-rest : goal.returns-clause-rest
returns-clause-rest g c = now_rests c.args.hand.now.account c.publish.new.hand.account c.report_done.new.hand.account c.args.m.0 c.args.i
    c.requires.claimed c.publish.ensures.others c.report_done.ensures.marks c.report_done.ensures.no_duty

pub returns-clause-tells : goal.returns-clause-tells
returns-clause-tells g c =
    let p = g.W.Scene.placed c.args.world.now in
    let f : ℕ → ℕ = λ n. get_or c.of-sending.result.to n 0 in
    let r = c.in_ok-report.report in
    let a = c.args.hand.now.account in
    let b = c.publish.new.hand.account in
    let d = c.report_done.new.hand.account in
    let here : Grew p.managers c.args.m.0 f a b = subst (λ (n : ℕ). Grew n c.args.m.0 f a b) c.requires.fits.managers_are c.publish.ensures.grew in
    rw c.in_ok-add.ensures.ok (tells_more g.A.Actor.meaning p c.requires.placed c.args.m.0 c.args.i c.requires.manager c.requires.place r
    c.in_ok-report.ensures.id c.args.reports.now a d c.requires.tells c.in_ok-report.ensures.meant c.requires.claimed.here
    (all_others a b d c.args.m.0 c.args.i c.requires.claimed c.publish.ensures.others c.report_done.ensures.marks)
    (now_reported a b d c.args.m.0 c.args.i c.requires.claimed c.publish.ensures.others c.report_done.ensures.marks)
    (grew_still p.managers c.args.m.0 f (λ n. sends_to g.A.Actor.meaning p n r.outcome) a b d c.of-sending.ensures.each here c.report_done.ensures.still.posted))
