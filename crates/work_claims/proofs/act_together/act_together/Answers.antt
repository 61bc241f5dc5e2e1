use Rattle.std.proofs.Common.{Some, refl, arith, ◌∙◌}
use Rattle.std.proofs.lemmas.List.Elements.{All-pop}
use Rattle.quiescence.specs.Joint.{new_hand}
use Rattle.work_claims.specs.Together.{Worked}
use Rattle.work_claims.proofs.Uniting.{seats_alike, seats_count, worked_is}
use Rattle.work_claims.proofs.act_together.act_together.Goals as goal

pub act_seats-requires-clause-new : goal.act_seats-requires-clause-new
act_seats-requires-clause-new g c κs within = seats_alike (λ s. s.hand) c.in_ok-seats.seats.items c.args.round.now.shape.hands
    (new_hand c.args.round.now) (c.in_ok-seats.ensures ∙ c.requires.new)

pub unite-requires-clause-first : goal.unite-requires-clause-first
unite-requires-clause-first g c = (All-pop (Worked g.A.Actor.meaning (g.W.Scene.placed c.args.world.now) c.args.round.now 1) c.in_ok-all.all.items
    c.pop-2.new.self.items (Some c.in-Some-pop.first) c.in-Some-pop.ensures.items c.in_ok-all.ensures.each).1

pub unite-requires-clause-others : goal.unite-requires-clause-others
unite-requires-clause-others g c = (All-pop (Worked g.A.Actor.meaning (g.W.Scene.placed c.args.world.now) c.args.round.now 1) c.in_ok-all.all.items
    c.pop-2.new.self.items (Some c.in-Some-pop.first) c.in-Some-pop.ensures.items c.in_ok-all.ensures.each).0

pub returns : goal.returns
returns g c =
    let count = c.in_ok-all.ensures.count in
    let popped = c.in-Some-pop.ensures.cases in
    let many = seats_count (λ s. s.hand) c.in_ok-seats.seats.items c.args.round.now.shape.hands (new_hand c.args.round.now)
    (c.in_ok-seats.ensures ∙ c.requires.new) in
    let ok = c.in_ok-seats.seats.ok in
    worked_is g.A.Actor.meaning (g.W.Scene.placed c.args.world.now) c.args.round.now _ _ _ _ (omega arith) refl c.in_ok-acted.ensures
