use Rattle.std.proofs.Common.{rules, ◌≡◌, sym, ap, ◌∙◌, arith}
use Rattle.quiescence.proofs.Plays.{deals}
use Rattle.quiescence.proofs.round.Round.cut.Goals as goal

pub split_seat-requires : goal.split_seat-requires
split_seat-requires c =
    let t = c.self.inside.frame in
    let at : c.args.self.now.shape ≡ t = sym (ap (λ r. r.shape) c.self.view_is) in
    let is : c.args.seat.now.me.0.shape ≡ t = c.requires.shape ∙ at in
    (search rules, rw c.self.invariant.1 (omega arith), rw c.self.invariant.0 (deals t _ c.args.seat.now.me.0 c.requires.weight is (rw at at c.requires.blank)))
