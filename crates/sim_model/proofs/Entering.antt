-- The world at a moment that is entered, from its parts.
use Rattle.std.proofs.Common.{◌≡◌, ◌<◌, ◌&&◌, not, Bool, true, false, cond, nat_eq, List, ◌++◌, length, Contains, arith, refl, ap, ◌∙◌}
use Rattle.sim_base.specs.declared.ids.ActorId.{ActorId}
use Rattle.sim_base.specs.declared.moment.Moment.{Moment}
use Rattle.actor_trait.specs.declared.letter.Letter.{Letter}
use Rattle.agenda.specs.Dues.{due_at, without_tick}
use Rattle.inbox_order.specs.Inboxes.{inbox_of}
use Rattle.sim_model.specs.Moment.{agenda_at, called, in_order_once, inbox_at, living_from, precedence_at, scheduled}
use Rattle.sim_model.specs.declared.world.WorldState.{WorldState}
use Rattle.sim_model.proofs.Called.{inbox_at_later}
use Rattle.sim_model.proofs.Merging.{recipients_called}

-- where it isn't the first diasca of a tick, the called are scheduled and the agenda stays
pub record CallsAt {A : Type 0} (w : WorldState A) (at : Moment) : Type 0 where
  pub scheduled : scheduled w at ≡ called w.newborn w.letters
  pub agenda : agenda_at w at ≡ w.agenda

pub calls_at : {A : Type 0} (w : WorldState A) (at : Moment) → nat_eq at.diasca 0 ≡ false → CallsAt w at
calls_at {A} w at later = record {
  scheduled = who (nat_eq at.tick 0) (nat_eq at.diasca 0) later;
  agenda = what (nat_eq at.tick 0)
      (nat_eq at.diasca 0) later;
} where
  who : (a b : Bool) → b ≡ false
      → cond (a && b) (living_from 1 w.states) (cond (not a && b) (due_at at.tick w.agenda) (called w.newborn w.letters)) ≡ called w.newborn w.letters
  who a true e = cc
  who true false e = refl
  who false false e = refl

  what : (a b : Bool) → b ≡ false → cond (not a && b) (without_tick at.tick w.agenda) w.agenda ≡ w.agenda
  what a true e = cc
  what true false e = refl
  what false false e = refl

-- the newborn and the recipients of the inboxes are the called
pub called_of : {A : Type 0} (w : WorldState A) (at : Moment) (inboxes : List Letter) (recipients : List ActorId) → nat_eq at.diasca 0 ≡ false
    → ((id : ActorId) → inbox_of inboxes id ≡ inbox_at w at id)
    → ((id : ActorId) → (Contains recipients id → 0 < length (inbox_of inboxes id)) × (0 < length (inbox_of inboxes id) → Contains recipients id))
    → in_order_once (w.newborn ++ recipients) ≡ called w.newborn w.letters
called_of w at inboxes recipients later are each =
    recipients_called w.newborn recipients w.letters (precedence_at w.parameters at)
    (λ id. let same = ap (λ l. length l) (are id ∙ inbox_at_later w at id later) in
    (λ h. omega (arith, (each id).0 h, same), λ h. (each id).1 (omega (arith, h, same))))
