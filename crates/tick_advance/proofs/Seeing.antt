-- A world that is seen with its letters in another order, of which each event is the same.
use Rattle.std.proofs.Common.{◌≡◌, List, [], ◌∷◌, Option, ap, refl}
use Rattle.std.specs.List.{filter_map}
use Rattle.sim_base.specs.declared.ids.ActorId.{ActorId}
use Rattle.sim_base.specs.declared.moment.Moment.{Moment}
use Rattle.actor_trait.specs.Meaning.{Meaning}
use Rattle.sim_model.specs.Moment.{event_at, report_of, reports}
use Rattle.sim_model.specs.declared.world.WorldState.{WorldState}
use Rattle.local_manager.specs.Views.{with_letters}

found_same : {X Y : Type 0} (h k : X → Option Y) → ((x : X) → h x ≡ k x) → (xs : List X) → filter_map h xs ≡ filter_map k xs
found_same h k same [] = refl
found_same h k same (x ∷ xs) = rw (same x, found_same h k same xs) refl

-- what comes of one actor asks of the letters for its event alone
report_same : {A : Type 0} (m : Meaning A) (v w : WorldState A) (at : Moment) (id : ActorId)
    → v ≡ with_letters w v.letters → event_at v at id ≡ event_at w at id → report_of m v at id ≡ report_of m w at id
report_same m v w at id e event =
    let states : v.states ≡ w.states = ap (λ u. u.states) e in
    let seed : v.parameters.seed ≡ w.parameters.seed = ap (λ u. u.parameters.seed) e in
    rw (event, seed, states) refl

-- ... and so what comes of all that are scheduled
pub reports_same : {A : Type 0} (m : Meaning A) (v w : WorldState A) (at : Moment)
    → v ≡ with_letters w v.letters → ((id : ActorId) → event_at v at id ≡ event_at w at id) → reports m v at ≡ reports m w at
reports_same m v w at e events =
    let who : v.scheduled ≡ w.scheduled = ap (λ u. u.scheduled) e in
    rw who (found_same (report_of m v at) (report_of m w at) (λ id. report_same m v w at id e (events id)) w.scheduled)
