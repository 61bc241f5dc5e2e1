use Rattle.std.proofs.Common.{◌≡◌, ap, subst, sym, ◌∙◌}
use Rattle.tick_advance.specs.Log.{log_of}
use Rattle.tick_advance.specs.Sound.{IsSoundAt}
use Rattle.tick_advance.specs.Standing.{IsBefore, sim_of}
use Rattle.tick_advance.specs.declared.position.Position.TheVariants as position
use Rattle.tick_advance.proofs.Standing.{entered_within}
use Rattle.tick_advance.proofs.sim.Sim.enter.Goals as goal

-- src/entering.rt:13:5
pub returns-clause-within : goal.returns-clause-within
returns-clause-within g c = λ u before.
    let i = c.self.inside in
    let stands : i.position ≡ position.Before c.args.at = ap (λ v. v.position) c.self.view_is ∙ c.requires.before in
    let sound = subst (λ p. IsSoundAt i.world (log_of g.S.Sieve.keeps i.log) i.tree.leaves p) stands c.self.invariant.at in
    entered_within (sim_of g.S.Sieve.keeps (record { world = i.world; log = i.log; rounds = i.rounds; position = i.position })) c.enter.new.self c.args.at u stands sound.next c.in_ok-enter.ensures.entered
    (subst (λ v. IsBefore v u) (sym (ap (sim_of g.S.Sieve.keeps) c.self.view_is)) before)
