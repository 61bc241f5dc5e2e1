use Rattle.std.proofs.Common.{◌≡◌, ◌<◌, ℕ, ap, arith, add-one, ◌∙◌}
use Rattle.quiet_core.specs.Rows.{below}
use Rattle.quiet_core.specs.Account.{managers, scheduled}
use Rattle.quiescence.proofs.Keeping.{below_most}
use Rattle.quiescence.proofs.ended.Ended.scheduled.Goals as goal

pub overflow_add-sum : goal.overflow_add-sum
overflow_add-sum c =
    let t = c.args.self.now.frame in
    let z = c.requires in
    let m : ℕ = c.loop-m.m in
    let lt : m < managers t = omega arith in
    let most = below_most (λ k. scheduled t k) m 1000000 (λ k l. z.few_scheduled k (omega arith)) in
    let one = z.few_scheduled m lt in
    let few = z.few_managers in
    let e = c.loop-m.invariant in
    let x = c.scheduled.ensures in
    omega arith

pub loop-m-preserved : goal.loop-m-preserved
loop-m-preserved c =
    let t = c.args.self.now.frame in
    let e = c.loop-m.invariant in
    let x = c.scheduled.ensures in
    rw (add-one c.loop-m.m) (omega arith)

pub returns : goal.returns
returns c =
    let t = c.args.self.now.frame in
    let is : c.loop-m.m ≡ managers t = omega arith in
    c.loop-m.invariant ∙ ap (λ (n : ℕ). below (λ m. scheduled t m) n) is
