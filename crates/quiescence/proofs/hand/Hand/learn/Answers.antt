use Rattle.std.proofs.Common.{◌≤◌, subst}
use Rattle.quiescence.specs.Rule.{Holding, Stands}
use Rattle.quiescence.specs.Learnt.{Learnt}
use Rattle.quiescence.proofs.Learns.{learnt}
use Rattle.quiescence.proofs.hand.Hand.learn.Goals as goal

pub returns-clause-learnt : goal.returns-clause-learnt
returns-clause-learnt c = subst (λ (h : Holding). Learnt h.round.shape h.account) c.self.view_is (learnt _ _ c.self.invariant.stands)

pub returns-clause-weight : goal.returns-clause-weight
returns-clause-weight c = subst (λ (h : Holding). 1 ≤ h.account.weight) c.self.view_is c.self.invariant.has_weight

pub returns-clause-stands : goal.returns-clause-stands
returns-clause-stands c = subst (λ (h : Holding). Stands h.round.shape h.account) c.self.view_is c.self.invariant.stands
