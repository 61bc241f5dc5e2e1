use Rattle.std.proofs.Common.{◌≡◌, ◌∙◌, ◌<◌, length, ap, arith}
use Rattle.std.proofs.lemmas.Iterator.Adapters.{YieldsList-from_vec}
use Rattle.std.proofs.lemmas.Iterator.Consumers.{YieldsList-from_enumerate, YieldsList-turn}
use Rattle.std.proofs.lemmas.List.FromFn.{get_or-enumerate_from, length-enumerate_from}
use Rattle.sim_model.proofs.Bearing.{births_pushed}
use Rattle.sim_model.proofs.births.bear.Goals as goal

pub loop-index-preserved : goal.loop-index-preserved
loop-index-preserved g c =
    let items = c.args.states.items in
    let source = YieldsList-from_vec {s = c.into_iter-index-iterator.result.iter} items (cc) (cc) in
    let numbered = YieldsList-from_enumerate {s = c.into_iter-index-iterator.result} source (cc) in
    let turn = YieldsList-turn numbered c.loop-index.yielded c.loop-index.index-iterator c.loop-index.yielded_by c.next.result c.next.new.self
    (c.in-Some.index, c.in-Some.state) c.in-Some.is c.next.ensures.steps in
    let within : length c.loop-index.yielded < length items = rw (length-enumerate_from 0 items) at turn.0 in
    let place = get_or-enumerate_from 0 items (length c.loop-index.yielded) (c.in-Some.index, c.in-Some.state) within in
    let index : c.in-Some.index ≡ length c.loop-index.yielded = omega (arith, ap (λ p. p.0) (turn.1 ∙ place)) in
    births_pushed g.A.Actor.meaning c.args.creator c.args.first c.args.born.now.items c.loop-index.born.items c.push.new.self.items c.loop-index.yielded
    c.in-Some.index c.in-Some.state index c.loop-index.invariant (rw (c.born.ensures, c.kind.ensures) at c.in_ok-push.ensures.items)
