use Rattle.std.proofs.Common.{rules, ◌≡◌, sym, ap, ◌∙◌, arith}
use Rattle.quiescence.proofs.Plays.{halves}
use Rattle.quiescence.proofs.round.Round.halve.Goals as goal

pub split_seat-requires : goal.split_seat-requires
split_seat-requires c =
    let t = c.self.inside.frame in
    let is : c.args.seat.now.me.0.shape ≡ t = c.requires.shape ∙ sym (ap (λ r. r.shape) c.self.view_is) in
    (search rules, rw c.self.invariant.1 (omega arith), rw c.self.invariant.0 (halves t _ c.args.seat.now.me.0 c.requires.weight is))
