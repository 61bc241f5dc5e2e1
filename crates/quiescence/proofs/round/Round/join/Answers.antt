use Rattle.std.proofs.Common.{rules, ◌≡◌, sym, ap, arith}
use Rattle.quiescence.proofs.Plays.{joins}
use Rattle.quiescence.proofs.round.Round.join.Goals as goal

pub join_seat-requires : goal.join_seat-requires
join_seat-requires g c =
    let t = c.self.inside.frame in
    let is : c.args.self.now.shape ≡ t = sym (ap (λ r. r.shape) c.self.view_is) in
    (search rules, search rules, c.requires.no_slot, rw c.self.invariant.1 (omega arith), rw (c.self.invariant.0, c.requires.picked, is) (joins t _ _ _ _ c.requires.has_weight))
