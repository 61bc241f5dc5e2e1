use Rattle.std.proofs.Common.{◌≡◌, List, [], sym, ap, ◌∙◌, subst, arith}
use Rattle.quiescence.specs.Rule.{RoundId, Holding}
use Rattle.quiescence.specs.Learnt.{Learnt}
use Rattle.quiescence.specs.Joint.{pooled, joint}
use Rattle.quiescence.proofs.Looks.{pooled_last, of_last, joint_last, empty}
use Rattle.quiescence.proofs.round.Round.gather.Goals as goal

pub unreachable-requires : goal.unreachable-requires
unreachable-requires c =
    let none : c.args.hands.now.items ≡ [] = empty c.args.hands.now.items (let v = c.in_default.ensures.cases in let ok = c.args.hands.now.ok in omega arith) in
    let shape : c.self.inside.frame.hands ≡ c.args.self.now.shape.hands = ap (λ (q : RoundId). q.shape.hands) c.self.view_is in
    let zero : (joint c.args.hands.now.items).weight ≡ 0 = ap (λ (l : List Holding). (joint l).weight) none in
    let some = c.self.invariant.5 in
    let whole = c.requires.whole in
    absurd (omega arith)

pub loop-hand-init : goal.loop-hand-init
loop-hand-init c = let r = of_last _ c.pop.new.self.items c.in-Some.last (rw c.in-Some.ensures.items at c.requires.of) in
    (r.1, r.0, sym (joint_last c.pop.new.self.items c.in-Some.last) ∙ ap (λ l. joint l) (sym c.in-Some.ensures.items))

pub unite-requires : goal.unite-requires
unite-requires c = record { of = (c.loop-hand.invariant.0, (of_last _ c.pop-in-loop-hand.new.self.items c.in-Some-pop.hand (rw c.in-Some-pop.ensures.items at c.loop-hand.invariant.1)).1) }

pub loop-hand-preserved : goal.loop-hand-preserved
loop-hand-preserved c = (
  ap (λ (h : Holding). h.round) c.unite.ensures.joined ∙ c.loop-hand.invariant.0,
  (of_last _ c.pop-in-loop-hand.new.self.items c.in-Some-pop.hand (rw c.in-Some-pop.ensures.items at c.loop-hand.invariant.1)).0,
  ap (λ (h : Holding). pooled h.account c.pop-in-loop-hand.new.self.items) c.unite.ensures.joined ∙ sym (pooled_last c.loop-hand.last.account c.pop-in-loop-hand.new.self.items c.in-Some-pop.hand)
      ∙ ap (λ l. pooled c.loop-hand.last.account l) (sym c.in-Some-pop.ensures.items) ∙ c.loop-hand.invariant.2,
)

pub returns-clause-learnt : goal.returns-clause-learnt
returns-clause-learnt c = subst (λ (r : RoundId). Learnt r.shape c.loop-hand.last.account) c.loop-hand.invariant.0 c.learn.ensures.learnt
