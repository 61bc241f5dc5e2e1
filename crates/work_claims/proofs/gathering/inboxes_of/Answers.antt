use Rattle.std.proofs.Common.{◌++◌, false, get_or, ap, ◌∙◌}
use Rattle.std.specs.List.{filter}
use Rattle.actor_trait.specs.InboxOrder.{inbox_order}
use Rattle.work_claims.specs.Letters.{letters_sent}
use Rattle.work_claims.specs.Placed.{precedence_of}
use Rattle.work_claims.proofs.Gathers.{inbox_mine}
use Rattle.work_claims.proofs.gathering.inboxes_of.Goals as goal

pub returns : goal.returns
returns g c to =
    let p = g.W.Scene.placed c.args.world.now in
    let all = letters_sent g.A.Actor.meaning p c.args.reports.now in
    let mine = filter (λ l. get_or c.args.mine.now (p.route l.to) false) all in
    c.in_ok-parts.ensures to
    ∙ ap (λ ls. inbox_order ls to c.precedence.result) (c.in_ok-letters.ensures ∙ ap (λ ls. ls ++ mine) c.take_room.ensures.empty)
    ∙ ap (λ q. inbox_order mine to q) c.precedence.ensures
    ∙ inbox_mine (λ id. get_or c.args.mine.now (p.route id) false) to all (precedence_of p)
