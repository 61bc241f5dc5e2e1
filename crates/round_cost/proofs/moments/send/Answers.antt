use Rattle.std.proofs.Common.{◌≡◌, ap, arith}
use Rattle.quiet_core.specs.Account.{told, mark, opened, owing}
use Rattle.quiescence.proofs.Readers.{raised_told, mark_posted}
use Rattle.round_cost.proofs.moments.send.Goals as goal

pub post-requires-clause-may : goal.post-requires-clause-may
post-requires-clause-may c =
    let b = c.raise.new.hand.account in
    let is : mark b c.args.m.0 c.args.i ≡ told c.args.n = raised_told _ _ _ _ _ c.raise.ensures.raised in
    let weight = ap (λ z. z.weight) c.raise.ensures.raised in
    let one = c.requires.weight in
    let nz = c.if-n-eq0.false in
    let few = c.requires.amount in
    let owe : owing (mark b c.args.m.0 c.args.i) ≡ c.args.n = ap owing is in
    (c.requires.managers.0, c.requires.managers.1, omega arith, ap opened is, omega arith, omega arith)

pub returns-clause-open : goal.returns-clause-open
returns-clause-open c = ap opened (mark_posted _ _ _ _ c.raise.new.hand.account c.post.new.hand.account c.post.ensures.posted)

pub returns-clause-posted : goal.returns-clause-posted
returns-clause-posted c =
    let b = c.raise.new.hand.account in
    let is : mark b c.args.m.0 c.args.i ≡ told c.args.n = raised_told _ _ _ _ _ c.raise.ensures.raised in
    let owe : owing (mark b c.args.m.0 c.args.i) ≡ c.args.n = ap owing is in
    let left = ap owing (mark_posted _ _ _ _ b c.post.new.hand.account c.post.ensures.posted) in omega arith
