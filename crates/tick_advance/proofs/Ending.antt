-- A run that is over stays so, and so do the sums over its moments.
use Rattle.std.proofs.Common.{◌≡◌, ℕ, zero, suc, ◌+◌, ◌-◌, ◌<◌, ◌≤◌, Bool, true, false, nat_lt, List, [], ◌∷◌, ap, arith, refl, subst, sym, ◌∙◌}
use Rattle.std.proofs.lemmas.Bool.Decides.{nat_tests}
use Rattle.std.specs.Prelude.{Err, IfOk, Ok, Result}
use Rattle.sim_base.specs.declared.ids.ActorId.{ActorId}
use Rattle.sim_base.specs.declared.moment.Ending.{Ending}
use Rattle.sim_base.specs.declared.moment.Moment.{Moment}
use Rattle.sim_base.specs.declared.moment.Row.{Row}
use Rattle.actor_trait.specs.Meaning.{Meaning}
use Rattle.probes.specs.Kept.{kept_rows}
use Rattle.sim_model.specs.Run.{IsRun, go_on, most_moments, results_of, run_after, run_from, run_of}
use Rattle.sim_model.specs.SetupParts.{SetupParts}
use Rattle.sim_model.specs.Setups.{IsSetup}
use Rattle.sim_model.specs.declared.cast.Member.{Member}
use Rattle.sim_model.specs.declared.run.Results.{Results}
use Rattle.sim_model.specs.declared.stage.Ended.{Ended}
use Rattle.sim_model.specs.declared.stage.Stage.{Stage}
use Rattle.sim_model.specs.declared.stage.Stage.TheVariants.{Going, Over}
use Rattle.sim_model.proofs.Forward.{run_ends, run_goes_on}
use Rattle.tick_advance.specs.RoundsOf.{rounds_after, rounds_of, with_stage}
use Rattle.tick_advance.specs.RunKept.{IsRunKept, results_kept}
use Rattle.tick_advance.specs.Standing.{IsAt, IsOver, SimParts, StandsFor}
use Rattle.tick_advance.specs.declared.position.Position.TheVariants as position

over_from : {A : Type 0} (m : Meaning A) (e : Ended A) (n : ℕ) → run_from m (Over e) n ≡ Over e
unfolding run_from go_on
over_from m e zero = refl
over_from m e (suc n) = ap (λ p. go_on m p) (over_from m e n)

-- from the moment on at which it is over
over_later : {A : Type 0} (m : Meaning A) (s : SetupParts A) (k j : ℕ) (e : Ended A) → IsSetup s → run_after m s k ≡ Over e → run_after m s (k + j) ≡ Over e
over_later m s k j e setup over =
    sym (run_goes_on m s setup k j).later ∙ ap (λ p. run_from m p j) over ∙ over_from m e j

-- ... it has come to its end
pub over_is_end : {A : Type 0} (m : Meaning A) (s : SetupParts A) (k : ℕ) (e : Ended A) → IsSetup s → run_after m s k ≡ Over e → run_of m s ≡ Over e
over_is_end m s k e setup over =
    sym (run_goes_on m s setup k 0).whole ∙ ap (λ p. run_from m p (most_moments s)) over ∙ over_from m e (most_moments s)

rounds_later : {A : Type 0} (m : Meaning A) (s : SetupParts A) (k j : ℕ) (e : Ended A) → IsSetup s → run_after m s k ≡ Over e
    → rounds_after m s (k + j) ≡ rounds_after m s k
unfolding rounds_after
rounds_later m s k zero e setup over = let same : k + 0 ≡ k = omega arith in ap (λ n. rounds_after m s n) same
rounds_later m s k (suc j) e setup over =
    let same : k + suc j ≡ suc (k + j) = omega arith in
    ap (λ n. rounds_after m s n) same ∙ ap (λ p. with_stage m p (rounds_after m s (k + j))) (over_later m s k j e setup over)
    ∙ rounds_later m s k j e setup over

-- the sums over its moments are those over all
pub rounds_at_end : {A : Type 0} (m : Meaning A) (s : SetupParts A) (k : ℕ) (e : Ended A) → IsSetup s → run_after m s k ≡ Over e
    → rounds_after m s k ≡ rounds_of m s
rounds_at_end {A} m s k e setup over = told (nat_lt k (most_moments s)) refl
  where
    told : (b : Bool) → nat_lt k (most_moments s) ≡ b → rounds_after m s k ≡ rounds_of m s
    told true low =
        let fits : k < most_moments s = grind (arith, nat_tests, low) in
        let rest : k + (most_moments s - k) ≡ most_moments s = omega arith in
        sym (rounds_later m s k (most_moments s - k) e setup over) ∙ ap (λ n. rounds_after m s n) rest
    told false high =
        let fits : most_moments s ≤ k = grind (arith, nat_tests, high) in
        let rest : most_moments s + (k - most_moments s) ≡ k = omega arith in
        let end = run_ends m s setup in
        sym (ap (λ n. rounds_after m s n) rest) ∙ rounds_later m s (most_moments s) (k - most_moments s) end.0 setup end.1

-- ---- what stands at its end

-- this run is over, and these are what is left of it
pub record HasEnded {A : Type 0} (m : Meaning A) (s : SetupParts A) (v : SimParts A) : Type 0 where
  pub end : Ended A
  pub whole : run_of m s ≡ Over end
  pub over : IsOver v end
  pub rounds : v.rounds ≡ rounds_of m s

pub has_ended : {A : Type 0} (m : Meaning A) (s : SetupParts A) (k : ℕ) (v : SimParts A) (ending : Ending) → v.position ≡ position.Ended ending
    → StandsFor m s k v → HasEnded m s v
has_ended {A} m s k v ending stands for = told (run_after m s k) refl for.stage
  where
    told : (p : Stage A) → run_after m s k ≡ p → IsAt v p → HasEnded m s v
    told (Going u) e at = absurd (let clash : position.Before u.next ≡ position.Ended ending = sym at.position ∙ stands in cc)
    told (Over end) e at = record {
      end = end;
      whole = over_is_end m s k end for.setup e;
      over = at;
      rounds = for.rounds ∙ rounds_at_end m s k end for.setup e;
    }

-- the results of its parts, of which some rows are kept
pub results_are : {A : Type 0} (keeps : ActorId → ℕ → Bool) (e : Ended A) (rows : List Row) (cast : List Member) (ending : Ending) (last : Moment) (dead : ℕ)
    → rows ≡ kept_rows keeps e.rows → cast ≡ e.world.cast → ending ≡ e.ending → last ≡ e.last → dead ≡ e.world.dead_letters
    → record { rows = rows; cast = cast; ending = ending; last = last; dead_letters = dead } ≡ results_kept keeps (results_of e)
results_are keeps e rows cast ending last dead r c n l d =
    ap (λ x. record { rows = x; cast = cast; ending = ending; last = last; dead_letters = dead }) r
    ∙ ap (λ x. record { rows = kept_rows keeps e.rows; cast = x; ending = ending; last = last; dead_letters = dead }) c
    ∙ ap (λ x. record { rows = kept_rows keeps e.rows; cast = e.world.cast; ending = x; last = last; dead_letters = dead }) n
    ∙ ap (λ x. record { rows = kept_rows keeps e.rows; cast = e.world.cast; ending = e.ending; last = x; dead_letters = dead }) l
    ∙ ap (λ x. record { rows = kept_rows keeps e.rows; cast = e.world.cast; ending = e.ending; last = e.last; dead_letters = x }) d

-- ---- all rows are kept

all_kept : (rows : List Row) → kept_rows (λ _ _. true) rows ≡ rows
all_kept [] = refl
all_kept (r ∷ rows) = ap (λ y. r ∷ y) (all_kept rows)

pub run_kept_all : {A : Type 0} (m : Meaning A) (s : SetupParts A) (r : Results) → IsRunKept m s (λ _ _. true) r → IsRun m s r
run_kept_all m s r h = subst (λ x. IsRun m s x) (sym (h.2 ∙ ap (λ rows. record h.0 { rows = rows }) (all_kept h.0.rows))) h.1

pub answers_all : {A B F : Type 0} (m : Meaning A) (s : SetupParts A) (r : Result (Results × B) F) → IfOk r (λ x. IsRunKept m s (λ _ _. true) x.0) → IfOk r (λ x. IsRun m s x.0)
answers_all m s (Ok x) h = run_kept_all m s x.0 h
answers_all m s (Err e) h = tt
