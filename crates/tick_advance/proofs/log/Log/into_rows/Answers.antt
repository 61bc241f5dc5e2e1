use Rattle.std.proofs.Common.{◌∙◌, ap}
use Rattle.tick_advance.specs.Log.{LogParts, log_of}
use Rattle.tick_advance.proofs.log.Log.into_rows.Goals as goal

pub returns : goal.returns
returns g c = λ rows h. c.of.ensures ∙ ap (λ (l : LogParts). l.merged) (ap (log_of g.S.Sieve.keeps) c.log.view_is) ∙ c.in_ok-merge.ensures.rows rows h
