use Rattle.std.proofs.Common.{sym, ap, ◌∙◌}
use Rattle.quiescence.specs.Rule.{Holding}
use Rattle.quiescence.proofs.Looks.{looked_more}
use Rattle.quiescence.proofs.round.Round.look_from.Goals as goal

pub loop-n-preserved : goal.loop-n-preserved
loop-n-preserved c =
    let of = c.look.ensures.of ∙ sym (ap (λ (h : Holding). h.round) c.loop-n.invariant.knows_more.same ∙ c.requires.of) in
    looked_more _ c.loop-n.hand c.look.new.hand c.args.m.0 c.loop-n.n c.look.result c.loop-n.invariant of c.look.ensures.known (c.look.ensures.not_less, c.look.ensures.own)
