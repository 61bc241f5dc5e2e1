use Rattle.std.proofs.Common.{◌≡◌, ◌<◌, length, get_or, sym, ap, subst, arith}
use Rattle.quiet_core.specs.Account.{Shape, root}
use Rattle.quiet_core.specs.Balance.{Sized}
use Rattle.quiet_core.specs.Step.{word_count}
use Rattle.quiet_core.proofs.Counted.{reads}
use Rattle.quiescence.proofs.Finishing.{reported_le, posted_small, acked_le, inner_small, working_le, closed, unfinished}
use Rattle.quiescence.proofs.round.Round.finish.Goals as goal

pub overflow_sub-result : goal.overflow_sub-result
overflow_sub-result c =
    let l = reported_le c.args.self c.end-ended.result.frame c.end-ended.result.words.items
    _ _ _ _ _ _ c.seat.view_is c.gather.ensures.of c.gather.ensures.joint c.seat.invariant c.end-ended.ensures.frame c.end-ended.ensures.ends c.requires.whole in
    let e = c.scheduled.ensures in
    omega arith

pub posted-requires-clause-fits : goal.posted-requires-clause-fits
posted-requires-clause-fits c =
    let l = posted_small c.args.self c.end-ended.result.frame c.end-ended.result.words.items
    _ _ _ _ _ _ c.seat.view_is c.gather.ensures.of c.gather.ensures.joint c.seat.invariant c.end-ended.ensures.frame c.end-ended.ensures.ends c.requires.whole in
    omega arith

pub overflow_sub-result-then-index-gt0 : goal.overflow_sub-result-then-index-gt0
overflow_sub-result-then-index-gt0 c =
    let l = acked_le c.args.self c.end-ended.result.frame c.end-ended.result.words.items
    _ _ _ _ _ _ c.seat.view_is c.gather.ensures.of c.gather.ensures.joint c.seat.invariant c.end-ended.ensures.frame c.end-ended.ensures.ends c.requires.whole in
    let e = c.posted.ensures in
    omega arith

pub alive-requires-clause-fits : goal.alive-requires-clause-fits
alive-requires-clause-fits c =
    let l = inner_small c.args.self c.end-ended.result.frame c.end-ended.result.words.items
    _ _ _ _ _ _ c.seat.view_is c.gather.ensures.of c.gather.ensures.joint c.seat.invariant c.end-ended.ensures.frame c.end-ended.ensures.ends c.requires.whole in
    omega arith

pub overflow_sub-result-then-index-gt0-2 : goal.overflow_sub-result-then-index-gt0-2
overflow_sub-result-then-index-gt0-2 c =
    let l = working_le c.args.self c.end-ended.result.frame c.end-ended.result.words.items
    _ _ _ _ _ _ c.seat.view_is c.gather.ensures.of c.gather.ensures.joint c.seat.invariant c.end-ended.ensures.frame c.end-ended.ensures.ends c.requires.whole in
    let e = c.alive.ensures in
    let f = c.working.ensures in
    omega arith

pub returns-then-index-gt0 : goal.returns-then-index-gt0
returns-then-index-gt0 c =
    let ws = c.end-ended.result.words.items in
    let wide = c.end-ended.ensures.ends.kept.wide in
    let frame = ap (λ t. root t) c.end-ended.ensures.frame in
    let top = c.root.ensures in
    let in_ : c.root.result < length ws = omega arith in
    let x = reads ws c.root.result c.index.result.now in_ c.index.ensures in
    let y = ap (λ k. get_or ws k 0) top in
    let s = c.scheduled.ensures in let p = c.posted.ensures in let a = c.alive.ensures in let w = c.working.ensures in
    unfinished c.args.self c.end-ended.result.frame c.end-ended.result.words.items
    _ _ _ _ _ _ c.seat.view_is c.gather.ensures.of c.gather.ensures.joint c.seat.invariant c.end-ended.ensures.frame c.end-ended.ensures.ends c.requires.whole _ (omega arith) (omega arith) (omega arith) (omega arith)

pub returns : goal.returns
returns c =
    let ws = c.end-ended.result.words.items in
    let wide = c.end-ended.ensures.ends.kept.wide in
    let frame = ap (λ t. root t) c.end-ended.ensures.frame in
    let top = c.root.ensures in
    let in_ : c.root.result < length ws = omega arith in
    let x = reads ws c.root.result c.index.result.now in_ c.index.ensures in
    let y = ap (λ k. get_or ws k 0) top in
    closed c.args.self c.end-ended.result.frame c.end-ended.result.words.items
    _ _ _ _ _ _ c.seat.view_is c.gather.ensures.of c.gather.ensures.joint c.seat.invariant c.end-ended.ensures.frame c.end-ended.ensures.ends c.requires.whole (omega arith)

pub invariant_of-result : goal.invariant_of-result
invariant_of-result c =
    let ws = c.end-ended.result.words.items in
    let kept = c.end-ended.ensures.ends.kept in
    let frame = sym c.end-ended.ensures.frame in
    let l = posted_small c.args.self c.end-ended.result.frame ws
    _ _ _ _ _ _ c.seat.view_is c.gather.ensures.of c.gather.ensures.joint c.seat.invariant c.end-ended.ensures.frame c.end-ended.ensures.ends c.requires.whole in
    (subst (λ (t : Shape). Sized t) frame kept.sized, subst (λ (t : Shape). length ws ≡ word_count t) frame kept.wide, omega arith)
