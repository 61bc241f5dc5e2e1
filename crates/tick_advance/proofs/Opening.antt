-- A simulation before its first moment.
use Rattle.std.proofs.Common.{◌≡◌, ℕ, Bool, ◌+◌, ◌≤◌, List, [], ◌∷◌, length, ap, arith, refl, sym, subst, ◌∙◌}
use Rattle.std.proofs.lemmas.List.{length-replicate, length-set}
use Rattle.sim_base.specs.declared.ids.ActorId.{ActorId}
use Rattle.sim_base.specs.declared.moment.Moment.{Moment}
use Rattle.actor_trait.specs.InboxOrder.{inbox_order}
use Rattle.actor_trait.specs.Meaning.{Meaning}
use Rattle.actor_trait.specs.declared.letter.Letter.{Letter}
use Rattle.quiescence.specs.Rounds.{no_rounds}
use Rattle.agenda.specs.declared.due.Due.{Due}
use Rattle.sim_model.specs.Run.{opening_world, run_from}
use Rattle.sim_model.specs.SetupParts.{SetupParts}
use Rattle.sim_model.specs.Setups.{IsSetup}
use Rattle.sim_model.specs.Stepping.{RisesFrom}
use Rattle.sim_model.specs.declared.setup.Start.{Start}
use Rattle.sim_model.specs.declared.world.WorldState.{WorldState}
use Rattle.placement.specs.declared.policy.Policy.{Policy}
use Rattle.local_manager.specs.Directories.{Placed, nobody, with_actor}
use Rattle.local_manager.specs.Views.{IsNextFor, WorldParts, managers_of, placed_first, sent_at, with_letters, with_starts}
use Rattle.local_manager.specs.declared.phase.Phase.{Phase}
use Rattle.local_manager.specs.declared.phase.Phase.TheVariants as phase
use Rattle.tick_advance.specs.Log.{EndsBefore, HasRows, LogParts, no_log}
use Rattle.tick_advance.specs.RoundsOf.{rounds_after}
use Rattle.tick_advance.specs.Sound.{IsSound}
use Rattle.tick_advance.specs.Standing.{StandsFor}
use Rattle.tick_advance.specs.declared.position.Position.TheVariants as position
use Rattle.tick_advance.proofs.Rows.{no_rows, none_ends}

abbrev the_first : Moment
the_first = record { tick = 0; diasca = 0 }

starts_loads : {A : Type 0} (policy : Policy) (p : Placed) (n : ℕ) (starts : List (Start A)) → length (with_starts policy p n starts).loads ≡ length p.loads
starts_loads policy p n [] = refl
starts_loads policy p n (s ∷ starts) =
    starts_loads policy (with_actor policy p (record { 0 = n }) s.name) (n + 1) starts ∙ length-set p.loads _ _

-- each manager has a load from the start
first_loads : {A : Type 0} (policy : Policy) (managers : ℕ) (starts : List (Start A)) → length (placed_first policy managers starts).loads ≡ managers
first_loads policy managers starts = starts_loads policy (nobody managers) 1 starts ∙ length-replicate managers 0

-- a world that is made of a setup, and no row yet
pub record IsOpening {A : Type 0} (m : Meaning A) (s : SetupParts A) (managers : ℕ) (policy : Policy) (keeps : ActorId → ℕ → Bool) (w : WorldParts A) (l : LogParts) : Type 0 where
  pub world : w.one ≡ opening_world m s
  pub placed : w.placed ≡ placed_first policy managers s.actors
  pub now : w.moment ≡ record { tick = 0; diasca = 0 }
  pub phase : w.phase ≡ phase.Opening
  pub log : l ≡ no_log managers keeps

pub opening_sound : {A : Type 0} (m : Meaning A) (s : SetupParts A) (managers leaves workers : ℕ) (policy : Policy) (keeps : ActorId → ℕ → Bool) (w : WorldParts A) (l : LogParts)
    → IsSetup s → IsOpening m s managers policy keeps w l → leaves ≡ managers → 1 ≤ workers → workers ≤ 64
    → IsSound w l leaves workers (position.Before (record { tick = 0; diasca = 0 }))
opening_sound {A} m s managers leaves workers policy keeps w l setup h each some few =
    let count : managers_of w ≡ managers = ap (λ (p : Placed). length p.loads) h.placed ∙ first_loads policy managers s.actors in
    let limit : w.one.parameters.diasca_limit ≡ s.diasca_limit = ap (λ (o : WorldState A). o.parameters.diasca_limit) h.world in
    let none : w.one.agenda ≡ [] = ap (λ (o : WorldState A). o.agenda) h.world in
    let next : IsNextFor phase.Opening w.one w.moment the_first = refl in
    record {
      some_worker = some;
      few_workers = few;
      at = record {
        due = record {
          limits = record { tick = omega arith; diasca = omega (arith, limit, setup.some_diasca) };
          rows = subst (λ (k : LogParts). EndsBefore k the_first) (sym h.log) (none_ends managers keeps the_first);
          buffers = ap (λ (k : LogParts). length k.buffers) h.log ∙ length-replicate managers [] ∙ sym count;
          tree = each ∙ sym count;
        };
        next = subst (λ (p : Phase). IsNextFor p w.one w.moment the_first) (sym h.phase) next;
        agenda = subst (λ (dues : List Due). RisesFrom 1 dues) (sym none) tt;
      };
    }

pub opening_stands : {A : Type 0} (m : Meaning A) (s : SetupParts A) (managers : ℕ) (policy : Policy) (keeps : ActorId → ℕ → Bool) (w : WorldParts A) (l : LogParts)
    → IsSetup s → IsOpening m s managers policy keeps w l
    → StandsFor m s 0 (record { world = w; log = l; rounds = no_rounds; position = position.Before (record { tick = 0; diasca = 0 }) })
unfolding run_from rounds_after
opening_stands {A} m s managers policy keeps w l setup h =
    let none : w.one.letters ≡ [] = ap (λ (o : WorldState A). o.letters) h.world in
    record {
      setup = setup;
      stage = record {
        position = refl;
        phase = h.phase;
        now = h.now;
        world = record {
          world = h.world ∙ sym (ap (λ (letters : List Letter). with_letters (opening_world m s) letters) none);
          letters = λ to. ap (λ (letters : List Letter). inbox_order letters to (sent_at (opening_world m s).parameters the_first)) none;
        };
        rows = subst (λ (k : LogParts). HasRows k []) (sym h.log) (no_rows managers keeps);
      };
      rounds = refl;
    }
