-- The opening world.
use Rattle.std.proofs.Common.{◌≡◌, ℕ, suc, ◌+◌, List, [], ◌∷◌, ◌++◌, Some, length, get_or, refl, ap, arith, ◌∙◌}
use Rattle.std.proofs.lemmas.List.{length-map}
use Rattle.std.specs.List.{flat_map}
use Rattle.actor_trait.specs.Meaning.{Meaning}
use Rattle.actor_trait.specs.declared.letter.Letter.{Letter}
use Rattle.inbox_store.specs.Letters.{Letters}
use Rattle.placement.specs.declared.policy.Policy.{Policy}
use Rattle.sim_model.specs.Run.{opening_world}
use Rattle.sim_model.specs.SetupParts.{SetupParts}
use Rattle.sim_model.specs.Setups.{IsSetup}
use Rattle.sim_model.specs.declared.setup.Start.{Start}
use Rattle.sim_model.proofs.Keeping.{opening_whole}
use Rattle.local_manager.specs.Directories.{Placed, nobody, with_actor}
use Rattle.local_manager.specs.Mail.{IsEmpty}
use Rattle.local_manager.specs.Views.{IsSoundOpening, placed_first, with_starts}
use Rattle.local_manager.specs.declared.phase.Phase.TheVariants.{Opening}
use Rattle.local_manager.proofs.Placing.{homes_with}

pub flat_none : (lists : List (List Letter)) → ((i : ℕ) → get_or lists i [] ≡ []) → flat_map (λ l. l) lists ≡ []
flat_none [] h = refl
flat_none (l ∷ lists) h = ap (λ k. k ++ flat_map (λ l. l) lists) (h 0) ∙ flat_none lists (λ i. h (suc i))

starts_homes : {A : Type 0} (policy : Policy) (p : Placed) (n : ℕ) (starts : List (Start A))
    → length (with_starts policy p n starts).homes ≡ length p.homes + length starts
starts_homes policy p n [] = omega arith
starts_homes policy p n (s ∷ starts) =
    omega (arith, starts_homes policy (with_actor policy p (record { 0 = n }) s.name) (n + 1) starts, homes_with policy p (record { 0 = n }) s.name)

pub opening_sound : {A : Type 0} (m : Meaning A) (s : SetupParts A) (managers : ℕ) (policy : Policy) (store : Letters) → IsSetup s → IsEmpty store
    → IsSoundOpening m (record {
      one = opening_world m s;
      placed = placed_first policy managers s.actors;
      policy = policy;
      moment = record
          { tick = 0; diasca = 0 };
      phase = Opening;
    }) store
opening_sound {A} m s managers policy store setup none = record {
  upright = record {
    whole = opening_whole m s setup;
    homes = omega (arith, starts_homes policy (nobody managers) 1 s.actors, length-map {A = Start A} s.actors (λ a. Some a.state));
  };
  empty = none;
}
