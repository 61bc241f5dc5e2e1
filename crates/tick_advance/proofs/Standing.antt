-- A moment that is entered, in the world that is seen and in the run that it stands for.
use Rattle.std.proofs.Common.{◌≡◌, ◌≢◌, ℕ, ◌+◌, ◌-◌, ◌||◌, Bool, true, false, cond, nat_eq, List, [], length, ap, subst, arith, refl, sym, ◌∙◌}
use Rattle.std.proofs.lemmas.Bool.Decides.{nat_tests}
use Rattle.sim_base.specs.declared.ids.ActorId.{ActorId}
use Rattle.sim_base.specs.declared.moment.Moment.{Moment}
use Rattle.actor_trait.specs.InboxOrder.{Precedence, inbox_order}
use Rattle.actor_trait.specs.Seen.{seen}
use Rattle.actor_trait.specs.declared.letter.Letter.{Letter}
use Rattle.sim_model.specs.Moment.{agenda_at, enter, event_at, inbox_at, is_among, is_opening, is_spontaneous, living_from, precedence_at, scheduled}
use Rattle.agenda.specs.Dues.{due_at}
use Rattle.sim_model.specs.declared.stage.Underway.{Underway}
use Rattle.sim_model.specs.declared.world.WorldState.{WorldState}
use Rattle.local_manager.specs.Views.{CanEnter, IsEntered, IsNextFor, SameInboxes, WorldParts, sent_at, with_letters}
use Rattle.local_manager.specs.declared.phase.Phase.{Phase}
use Rattle.local_manager.specs.declared.phase.Phase.TheVariants as phase
use Rattle.local_manager.proofs.Entering.{next_later}
use Rattle.tick_advance.specs.Log.{EndsBefore, LogParts}
use Rattle.tick_advance.specs.Sound.{IsDue, IsSound, IsSoundAt}
use Rattle.tick_advance.specs.Standing.{IsBefore, IsWithin, SimParts, last_of}
use Rattle.tick_advance.specs.declared.position.Position.{Position}
use Rattle.tick_advance.specs.declared.position.Position.TheVariants as position
use Rattle.tick_advance.proofs.Calling.{called_same}

-- ---- the same letters, but for their order

pub scheduled_same : {A : Type 0} (w : WorldState A) (letters : List Letter) (sent at : Moment) → SameInboxes w.parameters sent letters w.letters
    → scheduled (with_letters w letters) at ≡ scheduled w at
scheduled_same w letters sent at same =
    ap (λ (ids : List ActorId). cond (is_opening at) (living_from 1 w.states) (cond (is_spontaneous at) (due_at at.tick w.agenda) ids))
    (called_same w.parameters sent w.newborn letters w.letters same)

inbox_same : {A : Type 0} (w : WorldState A) (letters : List Letter) (sent at : Moment) (id : ActorId) → SameInboxes w.parameters sent letters w.letters
    → (at.diasca ≢ 0 → record { tick = at.tick; diasca = at.diasca - 1 } ≡ sent) → inbox_at (with_letters w letters) at id ≡ inbox_at w at id
inbox_same w letters sent at id same follows = told (nat_eq at.diasca 0) refl
  where
    told : (b : Bool) → nat_eq at.diasca 0 ≡ b
        → cond b [] (inbox_order letters id (precedence_at w.parameters at)) ≡ cond b [] (inbox_order w.letters id (precedence_at w.parameters at))
    told true e = refl
    told false e =
        let when : sent_at w.parameters (record { tick = at.tick; diasca = at.diasca - 1 }) ≡ sent_at w.parameters sent =
        ap (λ (t : Moment). sent_at w.parameters t) (follows (λ z. grind (arith, nat_tests, e, z))) in
        ap (λ (p : Precedence). inbox_order letters id p) when ∙ same id ∙ sym (ap (λ (p : Precedence). inbox_order w.letters id p) when)

event_same : {A : Type 0} (w : WorldState A) (letters : List Letter) (sent at : Moment) (id : ActorId) → SameInboxes w.parameters sent letters w.letters
    → (at.diasca ≢ 0 → record { tick = at.tick; diasca = at.diasca - 1 } ≡ sent) → event_at (with_letters w letters) at id ≡ event_at w at id
event_same w letters sent at id same follows =
    ap (λ (inbox : List Letter). seen (is_opening at || is_among w.newborn id) (is_spontaneous at) inbox) (inbox_same w letters sent at id same follows)

-- ---- the moment before

-- a later diasca comes after the moment that was entered last
follows_last : {A : Type 0} (p : Phase) (w : WorldState A) (now at : Moment) → IsNextFor p w now at → at.diasca ≢ 0
    → record { tick = at.tick; diasca = at.diasca - 1 } ≡ now
follows_last phase.Opening w now at next later = absurd (later (ap (λ (t : Moment). t.diasca) next))
follows_last phase.Entered w now at next later = absurd next
follows_last phase.Closed w now at next later =
    let e = next_later w now at next later in
    let back : (now.diasca + 1) - 1 ≡ now.diasca = omega arith in
    ap (λ (t : Moment). record { tick = t.tick; diasca = t.diasca - 1 }) e ∙ ap (λ d. record { tick = now.tick; diasca = d }) back
follows_last phase.Torn w now at next later = absurd next

abbrev moment_before : Position → Moment → Moment
moment_before (position.Before at) d = at
moment_before (position.Within at) d = d
moment_before (position.Ended ending) d = d
moment_before position.Lost d = d

pub before_same : (p : Position) (at next : Moment) → p ≡ position.Before at → p ≡ position.Before next → at ≡ next
before_same p at next e f = ap (λ q. moment_before q at) (sym e ∙ f)

-- ---- entering

-- whoever stands before the next moment of a run has then entered it
pub entered_within : {A : Type 0} (v : SimParts A) (w : WorldParts A) (at : Moment) (u : Underway A) → v.position ≡ position.Before at
    → CanEnter v.world at → IsEntered v.world w at → IsBefore v u → IsWithin (record v { world = w; position = position.Within at }) u
entered_within {A} v w at u stands next entered before =
    let same : at ≡ u.next = before_same v.position at u.next stands before.position in
    let last : Moment = last_of u.last in
    let letters : List Letter = v.world.one.letters in
    let follows : (at.diasca ≢ 0 → record { tick = at.tick; diasca = at.diasca - 1 } ≡ last) =
    λ later. follows_last v.world.phase v.world.one v.world.moment at next later ∙ before.now in
    let here : w.one ≡ with_letters (enter u.world at) w.one.letters =
    entered.world
    ∙ ap (λ (o : WorldState A). with_letters (enter o at) w.one.letters) before.world.world
    ∙ ap (λ (ids : List ActorId). record u.world { agenda = agenda_at u.world at; scheduled = ids; letters = w.one.letters })
    (scheduled_same u.world letters last at before.world.letters) in
    let each : (id : ActorId) → event_at w.one at id ≡ event_at u.world at id =
    λ (id : ActorId). entered.events id ∙ ap (λ (o : WorldState A). event_at o at id) before.world.world
    ∙ event_same u.world letters last at id before.world.letters follows in
    record {
      position = ap (λ (t : Moment). position.Within t) same;
      world = here ∙ ap (λ (t : Moment). with_letters (enter u.world t) w.one.letters) same;
      events = λ id. subst (λ (t : Moment). event_at w.one t id ≡ event_at u.world t id) same (each id);
      rows = before.rows;
    }

-- ---- another log with rows that are no later

-- the rows are of moments as early as before, in as many buffers
pub record AreAsEarly (l k : LogParts) : Type 0 where
  pub ends : (at : Moment) → EndsBefore l at → EndsBefore k at
  pub buffers : length k.buffers ≡ length l.buffers

due_too : {A : Type 0} (w : WorldParts A) (l k : LogParts) (leaves : ℕ) (at : Moment) → AreAsEarly l k → IsDue w l leaves at → IsDue w k leaves at
due_too w l k leaves at early h = record {
  limits = h.limits;
  rows = early.ends at h.rows;
  buffers = early.buffers ∙ h.buffers;
  tree = h.tree;
}

sound_at_too : {A : Type 0} (w : WorldParts A) (l k : LogParts) (leaves : ℕ) (p : Position) → AreAsEarly l k → IsSoundAt w l leaves p → IsSoundAt w k leaves p
sound_at_too w l k leaves (position.Before at) early h = record { due = due_too w l k leaves at early h.due; next = h.next; agenda = h.agenda }
sound_at_too w l k leaves (position.Within at) early h = record { due = due_too w l k leaves at early h.due; phase = h.phase; now = h.now; agenda = h.agenda }
sound_at_too w l k leaves (position.Ended ending) early h = tt
sound_at_too w l k leaves position.Lost early h = tt

pub sound_too : {A : Type 0} (w : WorldParts A) (l k : LogParts) (leaves workers : ℕ) (p : Position) → AreAsEarly l k → IsSound w l leaves workers p
    → IsSound w k leaves workers p
sound_too w l k leaves workers p early h = record {
  some_worker = h.some_worker;
  few_workers = h.few_workers;
  at = sound_at_too w l k leaves p early h.at;
}
