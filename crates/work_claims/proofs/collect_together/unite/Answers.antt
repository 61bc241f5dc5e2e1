use Rattle.std.proofs.Common.{◌+◌, ◌++◌, ◌∷◌, ◌||◌, [], List, length, length-append, ap, subst, sym, ◌∙◌, arith}
use Rattle.std.specs.List.{All}
use Rattle.std.specs.Vec.Iter.{into_iter_items}
use Rattle.actor_trait.specs.declared.letter.Letter.{Letter}
use Rattle.work_claims.specs.Together.{Helped}
use Rattle.work_claims.proofs.Uniting.{all_step, gathered_is, gathered_united}
use Rattle.work_claims.proofs.collect_together.unite.Goals as goal

pub loop-collected-init : goal.loop-collected-init
loop-collected-init g c =
    let gives = c.into_iter-collected-iterator.ensures.into_iter_gives in
    let count = gives.1 in
    record {
      gathered = rw c.into_vec-inboxes.ensures c.requires.first;
      rest = subst (λ l. All (Helped g.A.Actor.meaning (g.W.Scene.placed c.args.world.now) c.args.round.now c.args.reports.now) l) (sym gives.0)
          c.requires.others;
      count = omega arith;
    }

pub unite-requires : goal.unite-requires
unite-requires g c =
    let rest = all_step (Helped g.A.Actor.meaning (g.W.Scene.placed c.args.world.now) c.args.round.now c.args.reports.now) _ c.in-Some.collected
    (into_iter_items c.next.new.self) c.in-Some.ensures.steps.0 c.loop-collected.invariant.rest in
    record { of = (c.loop-collected.invariant.gathered.of, rest.0.of) }

pub loop-collected-preserved : goal.loop-collected-preserved
loop-collected-preserved g c =
    let m = g.A.Actor.meaning in
    let p = g.W.Scene.placed c.args.world.now in
    let r = c.args.round.now in
    let rs = c.args.reports.now in
    let rest = all_step (Helped m p r rs) _ c.in-Some.collected (into_iter_items c.next.new.self) c.in-Some.ensures.steps.0
    c.loop-collected.invariant.rest in
    let joined = gathered_united m p r.shape c.requires.fits r (1 + length c.loop-collected.yielded) rs
    (record { hand = c.loop-collected.hand; inboxes = c.loop-collected.inboxes.items; short = c.loop-collected.short }) c.in-Some.collected
    c.unite.new.hand c.unite.ensures.apart c.unite.ensures.joined c.loop-collected.invariant.gathered rest.0 in
    let grown = length-append c.loop-collected.yielded (c.in-Some.collected ∷ []) in
    let step = c.in-Some.ensures.steps.1 in
    let count = c.loop-collected.invariant.count in
    record {
      gathered = gathered_is m p r _ _ rs _ _ (omega arith)
          (ap (λ (l : List (List Letter)). record { hand = c.unite.new.hand; inboxes = l; short = c.loop-collected.short || c.in-Some.collected.short })
          (sym (c.in_ok-append.ensures.items ∙ ap (λ (l : List (List Letter)). c.loop-collected.inboxes.items ++ l) c.into_vec.ensures))) joined;
      rest = rest.1;
      count = omega arith;
    }

pub returns : goal.returns
returns g c =
    let count = c.loop-collected.invariant.count in
    let none = c.in-None.ensures.steps.0 in
    gathered_is g.A.Actor.meaning (g.W.Scene.placed c.args.world.now) c.args.round.now _ _ c.args.reports.now _ _ (omega arith)
    (ap (λ (l : List (List Letter)). record { hand = c.loop-collected.hand; inboxes = l; short = c.loop-collected.short }) (sym c.of.ensures))
    c.loop-collected.invariant.gathered
