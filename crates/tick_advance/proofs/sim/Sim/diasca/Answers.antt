use Rattle.std.proofs.Common.{◌≡◌, ◌+◌, ℕ, ap, sym, ◌∙◌}
use Rattle.sim_model.specs.Run.{run_after, step}
use Rattle.sim_model.specs.SetupParts.{SetupParts}
use Rattle.sim_model.specs.declared.stage.Underway.{Underway}
use Rattle.tick_advance.specs.Standing.{IsWithin, StandsFor, step_to, sim_of}
use Rattle.tick_advance.specs.declared.position.Position.TheVariants as position
use Rattle.tick_advance.proofs.Judging.{if_ok, stands_next, step_next}
use Rattle.tick_advance.proofs.Passing.{ok_both, rests, stands_within}
use Rattle.tick_advance.proofs.sim.Sim.diasca.Goals as goal

pub returns-in_ok-enter-in-Before-clause-stands : goal.returns-in_ok-enter-in-Before-clause-stands
returns-in_ok-enter-in-Before-clause-stands g c =
    let m = g.A.Actor.meaning in
    let at = c.in-Before.at in
    let entered = c.in_ok-enter-in-Before.ensures in
    let stood : c.args.self.now.position ≡ position.Before at = sym (ap (λ v. v.position) c.self.view_is) ∙ c.in-Before.is in
    ok_both c.work.result
    (λ stage rounds s k h. stands_next m s k (sim_of g.S.Sieve.keeps c.enter.new.self) (sim_of g.S.Sieve.keeps c.work.new.self) at entered.position entered.now stage rounds
    (stands_within m s k (sim_of g.S.Sieve.keeps c.args.self.now) (sim_of g.S.Sieve.keeps c.enter.new.self) at stood entered.within entered.rounds h))
    c.work.ensures.stage c.work.ensures.rounds

pub returns-in_ok-enter-in-Before-clause-step : goal.returns-in_ok-enter-in-Before-clause-step
returns-in_ok-enter-in-Before-clause-step g c =
    let m = g.A.Actor.meaning in
    let at = c.in-Before.at in
    let entered = c.in_ok-enter-in-Before.ensures in
    let stood : c.args.self.now.position ≡ position.Before at = sym (ap (λ v. v.position) c.self.view_is) ∙ c.in-Before.is in
    if_ok (λ went. (u : Underway g.row.A.Denot) → IsWithin (sim_of g.S.Sieve.keeps c.enter.new.self) u → went ≡ step_to (step m u))
    (λ went. (s : SetupParts g.row.A.Denot) (k : ℕ) → StandsFor m s k (sim_of g.S.Sieve.keeps c.args.self.now) → went ≡ step_to (run_after m s (k + 1)))
    c.work.result
    (λ went f s k h. step_next m s k (sim_of g.S.Sieve.keeps c.enter.new.self) went f
    (stands_within m s k (sim_of g.S.Sieve.keeps c.args.self.now) (sim_of g.S.Sieve.keeps c.enter.new.self) at stood entered.within entered.rounds h))
    c.work.ensures.step

pub returns-in-Ended-clause-stands : goal.returns-in-Ended-clause-stands
returns-in-Ended-clause-stands g c = λ s k h.
    let stood : c.args.self.now.position ≡ position.Ended c.in-Ended.ending = sym (ap (λ v. v.position) c.self.view_is) ∙ c.in-Ended.is in
    (rests g.A.Actor.meaning s k (sim_of g.S.Sieve.keeps c.args.self.now) c.in-Ended.ending stood h).stands

pub returns-in-Ended-clause-step : goal.returns-in-Ended-clause-step
returns-in-Ended-clause-step g c = λ s k h.
    let stood : c.args.self.now.position ≡ position.Ended c.in-Ended.ending = sym (ap (λ v. v.position) c.self.view_is) ∙ c.in-Ended.is in
    (rests g.A.Actor.meaning s k (sim_of g.S.Sieve.keeps c.args.self.now) c.in-Ended.ending stood h).step
