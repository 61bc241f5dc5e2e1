use Rattle.std.proofs.Common.{rules, ◌≡◌, sym, ap}
use Rattle.quiet_core.specs.Step.{May}
use Rattle.quiescence.proofs.Plays.{adds, place_in}
use Rattle.quiescence.proofs.round.Round.add.Goals as goal

pub fetch_add-requires : goal.fetch_add-requires
fetch_add-requires g c =
    let t = c.self.inside.frame in
    let d = c.args.deed in
    let is : c.args.self.now.shape ≡ t = sym (ap (λ r. r.shape) c.self.view_is) in
    let may : May t d c.args.seat.now.me.0.account = rw is at c.requires.may in (
      search rules,
      rw (c.requires.word, c.self.invariant.1, is) (place_in t d c.args.seat.now.me.0.account c.self.invariant.2 may),
      rw (c.self.invariant.0, c.requires.word, c.requires.picked.0, c.requires.picked.1, is) (adds t d _ _ c.args.seat.now.me may c.args.k c.requires.change),
    )
