use Rattle.std.proofs.Common.{rules, ◌≡◌, sym, ap, ◌∙◌, arith}
use Rattle.quiescence.proofs.Plays.{sees}
use Rattle.quiescence.proofs.round.Round.see.Goals as goal

pub load-requires : goal.load-requires
load-requires c =
    let is : c.args.seat.now.me.0.shape ≡ c.self.inside.frame = c.requires.shape ∙ sym (ap (λ r. r.shape) c.self.view_is) in
    (search rules, rw c.self.invariant.1 (omega arith), rw c.self.invariant.0 (sees c.self.inside.frame _ _ c.args.seat.now.me is))
