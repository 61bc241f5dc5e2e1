use Rattle.std.proofs.Common.{ap, ◌∙◌, arith}
use Rattle.quiet_core.specs.Account.{Account, acks, knows, collects}
use Rattle.quiet_core.proofs.Sums.{put_here}
use Rattle.quiet_tests.proofs.running_round.collect_two.Goals as goal

pub ack-requires-clause-may : goal.ack-requires-clause-may
ack-requires-clause-may c =
    let three = c.requires.managers in
    let turn = c.in-Yours.ensures.turn in
    let one = c.requires.one.weight in
    let weight = ap (λ (a : Account). a.weight) turn.1 in
    let mine = ap (λ (a : Account). collects a 2) turn.1 ∙ put_here 0 c.args.hand.now.account.collected 2 1 in
    let none = ap (λ (a : Account). acks a 0 2) turn.1 ∙ turn.0 0 (omega arith) in
    let knew = ap (λ (a : Account). knows a 0 2) turn.1 in
    let two = c.requires.knows in
    (omega arith, omega arith, omega arith, mine, omega arith, omega arith)
