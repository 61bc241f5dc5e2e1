-- The moments that the run of a setup comes to, as its program does.
use Rattle.std.proofs.Common.{◌≡◌, ℕ, suc, refl, ◌∙◌}
use Rattle.actor_trait.specs.Meaning.{IsLawful, Meaning}
use Rattle.sim_model.specs.Run.{IsRun, opening, results_of, run_after, run_from, step}
use Rattle.sim_model.specs.SetupParts.{SetupParts}
use Rattle.sim_model.specs.Setups.{IsSetup}
use Rattle.sim_model.specs.Whole.{IsWhole}
use Rattle.sim_model.specs.declared.stage.Ended.{Ended}
use Rattle.sim_model.specs.declared.stage.Stage.TheVariants.{Going, Over}
use Rattle.sim_model.specs.declared.stage.Underway.{Underway}
use Rattle.sim_model.proofs.Forward.{IsFine, fine_end, fine_next, fine_start, run_from-at}
use Rattle.sim_model.proofs.Keeping.{opening_whole, whole_next}

pub record Reached {A : Type 0} (m : Meaning A) (s : SetupParts A) (u : Underway A) : Type 0 where
  pub moments : ℕ
  pub fine : IsFine s u moments
  pub whole : IsWhole m u.world
  pub there : run_after m s moments ≡ Going u

pub start_reached : {A : Type 0} (m : Meaning A) (s : SetupParts A) → IsSetup s → Reached m s (opening m s)
unfolding run_from
start_reached m s setup = record { moments = 0; fine = fine_start m s setup; whole = opening_whole m s setup; there = refl }

pub reached_next : {A : Type 0} (m : Meaning A) → IsLawful m → (s : SetupParts A) (u next : Underway A) → Reached m s u
    → step m u ≡ Going next → Reached m s next
reached_next m law s u next r e = record {
  moments = suc r.moments;
  fine = fine_next m s u next r.moments r.fine e;
  whole = whole_next m law u next r.whole e;
  there = run_from-at m (Going (opening m s)) u r.moments r.there ∙ e;
}

pub reached_end : {A : Type 0} (m : Meaning A) (s : SetupParts A) (u : Underway A) (e : Ended A) → Reached m s u → step m u ≡ Over e
    → IsRun m s (results_of e)
reached_end m s u e r over = fine_end m s u e r.moments r.fine r.there over
