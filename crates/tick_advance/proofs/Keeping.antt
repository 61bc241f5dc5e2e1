-- What a simulation keeps when a moment is closed.
use Rattle.std.proofs.Common.{◌≡◌, ℕ, suc, ◌+◌, Bool, true, false, not, List, [], ◌∷◌, length, Option, Some, None, is_none, ap, refl, sym, subst, ◌∙◌}
use Rattle.std.proofs.lemmas.List.{length-set}
use Rattle.std.specs.List.{filter, flat_map, fold}
use Rattle.std.specs.Option.{option_map, option_or}
use Rattle.sim_base.specs.declared.ids.ActorId.{ActorId}
use Rattle.sim_base.specs.declared.moment.Moment.{Moment}
use Rattle.actor_trait.specs.Faults.{fault_among, fault_shown, when}
use Rattle.actor_trait.specs.Meaning.{Meaning}
use Rattle.actor_trait.specs.declared.letter.Letter.{Letter}
use Rattle.quiescence.specs.Rounds.{RoundSums}
use Rattle.placement.specs.declared.policy.Policy.{Policy}
use Rattle.sim_model.specs.Births.{bears_past}
use Rattle.sim_model.specs.Moment.{agenda_after, ask_of, fault_of_moment, first_fault, is_among, next_id, retired, sends_of, what_comes_next}
use Rattle.sim_model.specs.Stepping.{RisesFrom}
use Rattle.sim_model.specs.Whole.{IsEarlier, IsWhole}
use Rattle.sim_model.specs.declared.births.Newborn.{Newborn}
use Rattle.sim_model.specs.declared.next.Next.{Next}
use Rattle.sim_model.specs.declared.next.Next.TheVariants.{Enters, Ends}
use Rattle.sim_model.specs.declared.report.Fault.{Fault}
use Rattle.sim_model.specs.declared.report.Report.{Report}
use Rattle.sim_model.specs.declared.stage.Underway.{Underway}
use Rattle.sim_model.specs.declared.world.WorldState.{WorldState}
use Rattle.sim_model.proofs.Calm.{asks_rise}
use Rattle.sim_model.proofs.Rising.{filter_rises}
use Rattle.local_manager.specs.Directories.{Placed, with_actor, without_load, without_loads}
use Rattle.local_manager.specs.Views.{AreInboxesNow, IsClosed, IsNextFor, WorldParts, born_now, managers_of, reports_now, with_letters, with_newborn}
use Rattle.local_manager.specs.declared.phase.Phase.{Phase}
use Rattle.local_manager.specs.declared.phase.Phase.TheVariants.{Closed, Entered, Torn}
use Rattle.work_claims.specs.Letters.{letters_sent}
use Rattle.work_claims.specs.Worlds.{placed_in}
use Rattle.work_claims.specs.declared.harvest.Harvest.{Harvest}
use Rattle.tick_advance.specs.Following.{position_before}
use Rattle.tick_advance.specs.Harvests.{AreInboxesSent, CanAdvance, CanAdvanceAt, IsWork}
use Rattle.tick_advance.specs.Log.{EndsBefore, LogParts}
use Rattle.tick_advance.specs.Sound.{IsSound, IsSoundAt, IsSoundWithin, IsWithinLimits}
use Rattle.tick_advance.specs.Standing.{IsWithin, SimParts}
use Rattle.tick_advance.specs.declared.position.Position.{Position}
use Rattle.tick_advance.specs.declared.position.Position.TheVariants as position
use Rattle.tick_advance.proofs.Calling.{comes_next}

-- ---- the moment that is entered

pub sound_within : {A : Type 0} (w : WorldParts A) (l : LogParts) (leaves workers : ℕ) (p : Position) (at : Moment)
    → IsSound w l leaves workers p → p ≡ position.Within at → IsSoundWithin w l leaves at
sound_within w l leaves workers p at h e = subst (λ q. IsSoundAt w l leaves q) e h.at

pub whole_within : {A : Type 0} (m : Meaning A) (w : WorldParts A) (l : LogParts) (leaves : ℕ) (at : Moment) → IsSoundWithin w l leaves at
    → ((w.phase ≡ Torn → ⊥) → IsWhole m (with_letters w.one [])) → IsWhole m (with_letters w.one [])
whole_within m w l leaves at h whole = whole (λ torn. let apart : Entered ≡ Torn = sym h.phase ∙ torn in cc)

-- what came of a moment that is entered
pub work_within : {A : Type 0} (m : Meaning A) (v old : SimParts A) (at : Moment) (h : Harvest A) → old ≡ v → old.position ≡ position.Within at
    → CanAdvance m v h → IsWork m old.world h
work_within {A} m v old at h same e can =
    subst (λ p. CanAdvanceAt p m old.world h) e (subst (λ (x : SimParts A). CanAdvance m x h) (sym same) can)

-- a round more changes nothing of the moment that is entered
pub within_still : {A : Type 0} (v old : SimParts A) (rounds : RoundSums) (u : Underway A) → old ≡ v → IsWithin v u
    → IsWithin (record old { rounds = rounds }) u
within_still {A} v old rounds u same h =
    let w = subst (λ (x : SimParts A). IsWithin x u) (sym same) h in
    record { position = w.position; world = w.world; events = w.events; rows = w.rows }

-- ---- the letters

-- where nobody shows a fault nobody shows one of its own
past_aside : (f x y z : Option ℕ) (past : Bool)
    → option_or f (option_or x (option_or y (option_or (when past 902) z))) ≡ None
    → option_or f (option_or x (option_or y (option_or (when false 902) z))) ≡ None
past_aside (Some n) x y z past e = cc
past_aside None (Some n) y z past e = cc
past_aside None None (Some n) z past e = cc
past_aside None None None z true e = cc
past_aside None None None z false e = e

first_none : (id : ActorId) (o : Option ℕ) (rest : Option Fault)
    → option_or (option_map (λ code. record { actor = id; code = code }) o) rest ≡ None → (o ≡ None) × (rest ≡ None)
first_none id None rest e = (refl, e)
first_none id (Some n) rest e = cc

pub all_calm : {A : Type 0} (m : Meaning A) (max next : ℕ) (at : Moment) (rs : List (Report A)) → first_fault m max next at rs ≡ None
    → filter (λ r. is_none (fault_shown m r.outcome at)) rs ≡ rs
all_calm m max next at [] none = refl
all_calm {A} m max next at (r ∷ rs) none =
    let past : Bool = bears_past max next (length r.outcome.births) in
    let parts = first_none r.id (fault_among m r.outcome at past) (first_fault m max (next + length r.outcome.births) at rs) none in
    let calm : fault_shown m r.outcome at ≡ None = past_aside r.outcome.fault _ _ _ past parts.0 in
    rw calm (ap (λ l. r ∷ l) (all_calm m max (next + length r.outcome.births) at rs parts.1))

-- ... and all letters are sent
pub inboxes_calm : {A : Type 0} (m : Meaning A) (w : WorldParts A) (inboxes : List Letter) (at : Moment) → w.moment ≡ at
    → fault_of_moment m w.one at (reports_now m w) ≡ None → AreInboxesSent m w inboxes → AreInboxesNow m w inboxes
inboxes_calm {A} m w inboxes at now calm h =
    let none : fault_of_moment m w.one w.moment (reports_now m w) ≡ None = ap (λ t. fault_of_moment m w.one t (reports_now m w)) now ∙ calm in
    let all : letters_sent m (placed_in w) (reports_now m w) ≡ flat_map sends_of (reports_now m w) =
    ap (λ (rs : List (Report A)). flat_map sends_of rs) (all_calm m w.one.parameters.max_actors (next_id w.one) w.moment (reports_now m w) none) in
    rw (← all) h

-- ---- the managers

loads_without : (p : Placed) (ids : List ActorId) → length (without_loads p ids).loads ≡ length p.loads
loads_without p [] = refl
loads_without p (id ∷ ids) = loads_without (without_load p id) ids ∙ length-set _ _ _

loads_born : {A : Type 0} (policy : Policy) (p : Placed) (born : List (Newborn A)) → length (with_newborn policy p born).loads ≡ length p.loads
loads_born policy p [] = refl
loads_born policy p (b ∷ born) = loads_born policy (with_actor policy p b.id b.name) born ∙ length-set _ _ _

-- a close keeps the number of managers
pub managers_closed : {A : Type 0} (m : Meaning A) (w next : WorldParts A) → IsClosed m w next → managers_of next ≡ managers_of w
managers_closed m w next h =
    ap (λ (p : Placed). length p.loads) h.placed
    ∙ loads_born w.policy (without_loads w.placed (retired (reports_now m w))) (born_now m w)
    ∙ loads_without w.placed (retired (reports_now m w))

-- ---- what holds before what comes next

-- whoever asked for a tick asked for a later one
pub agenda_closed : {A : Type 0} (m : Meaning A) (w next : WorldParts A) → IsClosed m w next
    → fault_of_moment m w.one w.moment (reports_now m w) ≡ None → RisesFrom (suc w.moment.tick) w.one.agenda
    → RisesFrom (suc w.moment.tick) next.one.agenda
agenda_closed {A} m w next h none rises =
    let after : next.one.agenda ≡ agenda_after w.one.agenda (reports_now m w) = ap (λ (x : WorldState A). x.agenda) h.world in
    rw after (filter_rises (λ d. not (is_among (retired (reports_now m w)) d.actor)) (suc w.moment.tick) (fold ask_of w.one.agenda (reports_now m w))
    (asks_rise m w.one.parameters.max_actors (next_id w.one) w.moment (reports_now m w) w.one.agenda none rises))

pub sound_closed : {A : Type 0} (m : Meaning A) (w next : WorldParts A) (old log : LogParts) (leaves : ℕ) (at : Moment)
    → IsSoundWithin w old leaves at → fault_of_moment m w.one at (reports_now m w) ≡ None → IsClosed m w next
    → length log.buffers ≡ length old.buffers → ((t : Moment) → IsEarlier at t → EndsBefore log t)
    → IsSoundAt next log leaves (position_before (what_comes_next next.one next.moment))
sound_closed {A} m w next old log leaves at h none closed buffers ends = told (what_comes_next next.one next.moment) refl
  where
    now : next.moment ≡ at
    now = ap (λ (x : WorldParts A). x.moment) closed.rest ∙ h.now

    calm : fault_of_moment m w.one w.moment (reports_now m w) ≡ None
    calm = ap (λ t. fault_of_moment m w.one t (reports_now m w)) h.now ∙ none

    parameters : next.one.parameters ≡ w.one.parameters
    parameters = ap (λ (x : WorldState A). x.parameters) closed.world

    limits : IsWithinLimits next.one.parameters next.moment
    limits = rw (parameters, now) h.due.limits

    same : next.moment ≡ w.moment
    same = ap (λ (x : WorldParts A). x.moment) closed.rest

    rises : RisesFrom (suc next.moment.tick) next.one.agenda
    rises = rw same (agenda_closed m w next closed calm (rw h.now h.agenda))

    phase : next.phase ≡ Closed
    phase = ap (λ (x : WorldParts A). x.phase) closed.rest

    told : (n : Next) → what_comes_next next.one next.moment ≡ n → IsSoundAt next log leaves (position_before n)
    told (Ends ending) e = tt
    told (Enters t) e =
        let comes = comes_next next.one next.moment t limits rises e in
        record {
          due = record {
            limits = comes.limits;
            rows = ends t (rw (← now) comes.later);
            buffers = buffers ∙ h.due.buffers ∙ sym (managers_closed m w next closed);
            tree = h.due.tree ∙ sym (managers_closed m w next closed);
          };
          next = subst (λ (p : Phase). IsNextFor p next.one next.moment t) (sym phase) e;
          agenda = comes.agenda;
        }
