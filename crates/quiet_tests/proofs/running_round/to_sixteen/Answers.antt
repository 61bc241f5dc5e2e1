use Rattle.std.proofs.Common.{◌+◌, ap, ◌∙◌, arith}
use Rattle.quiet_core.specs.Account.{Account, acks, knows, collects}
use Rattle.quiet_core.proofs.Sums.{pair_here, put_here}
use Rattle.quiet_tests.proofs.running_round.to_sixteen.Goals as goal

pub ack-requires-clause-may : goal.ack-requires-clause-may
ack-requires-clause-may c =
    let three = c.requires.managers in
    let turn = c.in-Yours.ensures.turn in
    let known = c.look.ensures.known in
    let found = c.if-look-ne2.false in
    let one = c.requires.eleven.x_one.weight in
    let weight = ap (λ (a : Account). a.weight) known ∙ ap (λ (a : Account). a.weight) turn.1 in
    let mine = ap (λ (a : Account). collects a 2) known ∙ ap (λ (a : Account). collects a 2) turn.1 ∙ put_here 0 c.args.x.now.account.collected 2 1 in
    let none = ap (λ (a : Account). acks a 0 2) known ∙ ap (λ (a : Account). acks a 0 2) turn.1 ∙ turn.0 0 (omega arith) in
    let knew = ap (λ (a : Account). knows a 0 2) known ∙ pair_here c.collect.new.hand.account.known 0 2 c.look.result in
    (omega arith, omega arith, omega arith, mine, omega arith, omega arith)

pub ack-requires-2-clause-may : goal.ack-requires-2-clause-may
ack-requires-2-clause-may c =
    let three = c.requires.managers in
    let turn = c.in-Yours.ensures.turn in
    let known = c.look.ensures.known in
    let acked = c.in-Left-eq1.ensures.acked in
    let found = c.if-look-ne2.false in
    let one = c.requires.eleven.x_one.weight in
    let weight = ap (λ (a : Account). a.weight) acked ∙ ap (λ (a : Account). a.weight) known ∙ ap (λ (a : Account). a.weight) turn.1 in
    let mine = ap (λ (a : Account). collects a 2) acked ∙ ap (λ (a : Account). collects a 2) known ∙ ap (λ (a : Account). collects a 2) turn.1 ∙ put_here 0 c.args.x.now.account.collected 2 1 in
    let none = ap (λ (a : Account). acks a 0 2) known ∙ ap (λ (a : Account). acks a 0 2) turn.1 ∙ turn.0 0 (omega arith) in
    let more = ap (λ (a : Account). acks a 0 2) acked ∙ pair_here c.look.new.hand.account.acked 0 2 (acks c.look.new.hand.account 0 2 + 1) in
    let knew = ap (λ (a : Account). knows a 0 2) acked ∙ ap (λ (a : Account). knows a 0 2) known ∙ pair_here c.collect.new.hand.account.known 0 2 c.look.result in
    (omega arith, omega arith, omega arith, mine, omega arith, omega arith)
