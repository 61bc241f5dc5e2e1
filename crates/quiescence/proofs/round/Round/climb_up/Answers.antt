use Rattle.std.proofs.Common.{◌≡◌, ◌≢◌, ℕ, false, subst}
use Rattle.quiet_core.specs.Account.{has_duty}
use Rattle.quiescence.specs.declared.answers.After.{After}
use Rattle.quiescence.specs.Answers.{OnlyDuty}
use Rattle.quiescence.proofs.Climbs.{only_climbed, climb_rest, more_rest}
use Rattle.quiescence.proofs.round.Round.climb_up.Goals as goal

pub loop-after-preserved : goal.loop-after-preserved
loop-after-preserved c =
    let i = c.loop-after.invariant in
    let a = c.loop-after.hand.account in
    let r = c.climb-after.result in
    let n = c.in-Duty.node.0 in
    let e = c.climb-after.ensures.climbed in
    record {
      sized = i.sized;
      of = c.climb-after.ensures.of;
      holds = c.climb-after.ensures.holds;
      same = more_rest c.args.hand.now.account a _ i.same (climb_rest r n a _ e);
      only = λ o. (let only : (k : ℕ) → k ≢ n → has_duty a k ≡ false = subst (λ (q : After). OnlyDuty q a) c.in-Duty.is (i.only o) in only_climbed r n a _ only e);
    }
