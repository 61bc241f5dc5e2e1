use Rattle.std.proofs.Common.{ap, ◌∙◌, arith}
use Rattle.quiet_core.specs.Account.{Account, acks, knows, collects}
use Rattle.quiet_core.proofs.Sums.{pair_here}
use Rattle.quiescence.proofs.Readers.{acked_apart}
use Rattle.round_cost.proofs.moments.take_from.Goals as goal

pub ack-after-requires-clause-may : goal.ack-after-requires-clause-may
ack-after-requires-clause-may c =
    let known = c.look-n.ensures.known in
    let one = c.requires.one.weight in
    let weight = ap (λ (a : Account). a.weight) known in
    let mine = ap (λ (a : Account). collects a c.args.to.0) known ∙ c.requires.collects in
    let none = ap (λ (a : Account). acks a c.args.m.0 c.args.to.0) known ∙ c.requires.none in
    let knew = ap (λ (a : Account). knows a c.args.m.0 c.args.to.0) known ∙ pair_here c.args.hand.now.account.known c.args.m.0 c.args.to.0 c.look-n.result in
    let nz = c.if-n-eq0.false in
    (c.requires.managers.0, c.requires.managers.1, omega arith, mine, omega arith, omega arith)

pub returns-clause-others : goal.returns-clause-others
returns-clause-others c k l =
    ap (λ (a : Account). acks a k c.args.to.0) c.climb_up.ensures.same
    ∙ acked_apart c.ack-after.result c.args.m.0 c.args.to.0 c.look-n.result k c.look-n.new.hand.account c.ack-after.new.hand.account c.ack-after.ensures.acked (λ e. omega arith)
    ∙ ap (λ (a : Account). acks a k c.args.to.0) c.look-n.ensures.known
