use Rattle.std.proofs.Common.{◌≡◌, ℕ, ◌-◌, ap, ◌∙◌, arith}
use Rattle.quiet_core.specs.Account.{told, mark, opened, owing}
use Rattle.quiet_core.proofs.Untouched.{mark_here}
use Rattle.quiescence.proofs.Readers.{mark_posted}
use Rattle.quiet_tests.proofs.running_round.send.Goals as goal

pub post-requires-clause-may : goal.post-requires-clause-may
post-requires-clause-may c =
    let a = c.args.hand.now.account in
    let b = c.raise.new.hand.account in
    let is : mark b c.args.m.0 c.args.i ≡ told c.args.n = ap (λ z. mark z c.args.m.0 c.args.i) c.raise.ensures.raised ∙ mark_here a c.args.m.0 c.args.i (told c.args.n) in
    let weight = ap (λ z. z.weight) c.raise.ensures.raised in
    let one = c.requires.weight in
    let owe : owing (mark b c.args.m.0 c.args.i) ≡ c.args.n = ap owing is in
    (c.requires.managers.0, c.requires.managers.1, omega arith, ap opened is, c.requires.amount.0, omega arith)

pub returns-clause-sent : goal.returns-clause-sent
returns-clause-sent c =
    let a = c.args.hand.now.account in
    let b = c.raise.new.hand.account in
    let is : mark b c.args.m.0 c.args.i ≡ told c.args.n = ap (λ z. mark z c.args.m.0 c.args.i) c.raise.ensures.raised ∙ mark_here a c.args.m.0 c.args.i (told c.args.n) in
    let owe : owing (mark b c.args.m.0 c.args.i) ≡ c.args.n = ap owing is in
    let none : owing (mark b c.args.m.0 c.args.i) - c.args.n ≡ 0 = omega arith in
    mark_posted _ _ _ _ b c.post.new.hand.account c.post.ensures.posted ∙ ap (λ (k : ℕ). told k) none
