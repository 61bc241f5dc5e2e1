use Rattle.std.proofs.Common.{◌≡◌, ap, refl, subst, sym, ◌∙◌}
use Rattle.probes.specs.Kept.{kept_rows}
use Rattle.sim_model.specs.Run.{results_of}
use Rattle.tick_advance.specs.Standing.{IsOver, sim_of}
use Rattle.tick_advance.specs.declared.position.Position.TheVariants as position
use Rattle.tick_advance.proofs.Ending.{has_ended, results_are}
use Rattle.tick_advance.proofs.sim.Sim.results.Goals as goal

pub returns-clause-run : goal.returns-clause-run
returns-clause-run g c = λ s k for.
    let i = c.self.inside in
    let stands : c.args.self.position ≡ position.Ended c.in-Ended.ending = sym (ap (λ v. v.position) c.self.view_is) ∙ c.in-Ended.is in
    let h = has_ended g.A.Actor.meaning s k (sim_of g.S.Sieve.keeps c.args.self) c.in-Ended.ending stands for in
    let over = subst (λ v. IsOver v h.end) (sym (ap (sim_of g.S.Sieve.keeps) c.self.view_is)) h.over in
    let same : position.Ended c.in-Ended.ending ≡ position.Ended h.end.ending = sym c.in-Ended.is ∙ over.position in
    let ending : c.in-Ended.ending ≡ h.end.ending = cc in (
      results_of h.end,
      (h.end, h.whole, refl),
      results_are (g.S.Sieve.keeps c.args.self.log.sieve) h.end _ _ c.in-Ended.ending c.now.result c.dead_letters.result
          (c.in_ok-into_rows.ensures h.end.rows over.rows ∙ ap (λ v. kept_rows (g.S.Sieve.keeps v.log.sieve) h.end.rows) c.self.view_is) (c.into_cast.ensures ∙ over.cast) ending (c.now.ensures ∙ over.now) (c.dead_letters.ensures ∙ over.dead_letters),
    )

pub returns-clause-rounds : goal.returns-clause-rounds
returns-clause-rounds g c = λ s k for.
    let stands : c.args.self.position ≡ position.Ended c.in-Ended.ending = sym (ap (λ v. v.position) c.self.view_is) ∙ c.in-Ended.is in
    ap (λ v. v.rounds) c.self.view_is ∙ (has_ended g.A.Actor.meaning s k (sim_of g.S.Sieve.keeps c.args.self) c.in-Ended.ending stands for).rounds
