use Rattle.std.proofs.Common.{ℕ, List, get_or, ap, ◌∙◌}
use Rattle.quiet_core.specs.Account.{collects}
use Rattle.quiet_core.proofs.Blank.{collects_none}
use Rattle.quiescence.specs.Rule.{Holding}
use Rattle.work_claims.proofs.Starting.{new_blank}
use Rattle.work_claims.proofs.act_together.act_seat_in.Goals as goal

pub act_in-requires-clause-new : goal.act_in-requires-clause-new
act_in-requires-clause-new g c = rw c.requires.new (new_blank c.args.round.now.shape (g.W.Scene.placed c.args.world.now).managers 1)

pub returns : goal.returns
returns g c = record {
  of = c.act_in.ensures.of;
  weight = c.act_in.ensures.keeps.weight ∙ ap (λ (h : Holding). h.account.weight) c.requires.new;
  none_collected = λ n ln. ap (λ (l : List ℕ). get_or l n 0) c.act_in.ensures.keeps.collected
      ∙ ap (λ (h : Holding). collects h.account n) c.requires.new ∙ collects_none c.args.round.now.shape n;
  tells = c.act_in.ensures.tells;
  ended = c.act_in.ensures.ended;
}
