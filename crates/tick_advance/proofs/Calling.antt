-- What comes after a moment: it asks of the letters only who is called.
use Rattle.std.proofs.Common.{◌≡◌, ℕ, suc, ◌+◌, ◌||◌, not, ◌&&◌, Bool, true, false, cond, nat_eq, nat_lt, List, [], ◌∷◌, ◌++◌, length, map, ap, arith, refl, sym, subst, ◌∙◌}
use Rattle.std.specs.List.{filter}
use Rattle.std.proofs.lemmas.Bool.Decides.{nat_tests}
use Rattle.sim_base.specs.declared.ids.ActorId.{ActorId}
use Rattle.sim_base.specs.declared.moment.Ending.TheVariants as ending
use Rattle.sim_base.specs.declared.moment.Moment.{Moment}
use Rattle.actor_trait.specs.InboxOrder.{is_to}
use Rattle.actor_trait.specs.declared.letter.Letter.{Letter}
use Rattle.agenda.specs.Dues.{without_tick}
use Rattle.agenda.specs.declared.due.Due.{Due}
use Rattle.inbox_order.proofs.Grouping.{length-in_order}
use Rattle.sim_model.specs.Moment.{called, is_among, is_spontaneous, next_for, next_tick, scheduled, what_comes_next}
use Rattle.sim_model.specs.Stepping.{RisesFrom}
use Rattle.sim_model.specs.Whole.{IsEarlier}
use Rattle.sim_model.specs.declared.next.Next.{Next}
use Rattle.sim_model.specs.declared.next.Next.TheVariants.{Enters, Ends}
use Rattle.sim_model.specs.declared.parameters.Parameters.{Parameters}
use Rattle.sim_model.specs.declared.world.WorldState.{WorldState}
use Rattle.sim_model.proofs.Entering.{calls_at}
use Rattle.sim_model.proofs.Merging.{once_ascends}
use Rattle.sim_model.proofs.Rising.{without_rises}
use Rattle.sim_model.proofs.Sameness.{same_ids}
use Rattle.local_manager.specs.Views.{SameInboxes, sent_at, with_letters}
use Rattle.local_manager.proofs.Among.{among_called, has_some, some_filtered}
use Rattle.tick_advance.specs.Following.{position_before, step_before}
use Rattle.tick_advance.specs.Sound.{IsWithinLimits}
use Rattle.tick_advance.specs.Standing.{LeadsTo}

-- ---- the same inboxes call the same

pub called_same : (p : Parameters) (at : Moment) (newborn : List ActorId) (xs ys : List Letter) → SameInboxes p at xs ys
    → called newborn xs ≡ called newborn ys
called_same p at newborn xs ys same =
    same_ids (called newborn xs) (called newborn ys) (once_ascends (newborn ++ map (λ l. l.to) xs))
    (once_ascends (newborn ++ map (λ l. l.to) ys))
    (λ id. among_called newborn xs id ∙ ap (λ (b : Bool). is_among newborn id || b) (some id) ∙ sym (among_called newborn ys id))
  where
    count : (id : ActorId) → length (filter (is_to id) xs) ≡ length (filter (is_to id) ys)
    count id = sym (length-in_order (sent_at p at) (filter (is_to id) xs)) ∙ ap (λ (l : List Letter). length l) (same id)
        ∙ length-in_order (sent_at p at) (filter (is_to id) ys)

    some : (id : ActorId) → has_some xs id ≡ has_some ys id
    some id = some_filtered xs id ∙ ap (λ n. nat_lt 0 n) (count id) ∙ sym (some_filtered ys id)

later : (d : ℕ) → nat_eq (d + 1) 0 ≡ false
later d = grind (arith, nat_tests)

next_for_letters : {A : Type 0} (w : WorldState A) (letters : List Letter) (at : Moment) (ids : List ActorId)
    → next_for (with_letters w letters) at ids ≡ next_for w at ids
next_for_letters w letters at [] = refl
next_for_letters w letters at (id ∷ ids) = refl

-- ... and so the same comes next
pub next_same : {A : Type 0} (v w : WorldState A) (at : Moment) → v ≡ with_letters w v.letters → SameInboxes w.parameters at v.letters w.letters
    → what_comes_next v at ≡ what_comes_next w at
next_same {A} v w at e same =
    ap (next_for v at) (calls_at v next (later at.diasca)).scheduled
    ∙ ap (next_for v at) (ap (λ (u : WorldState A). called u.newborn v.letters) e ∙ called_same w.parameters at w.newborn v.letters w.letters same)
    ∙ ap (λ (u : WorldState A). next_for u at (called w.newborn w.letters)) e
    ∙ next_for_letters w v.letters at (called w.newborn w.letters)
    ∙ sym (ap (next_for w at) (calls_at w next (later at.diasca)).scheduled)
  where
    next : Moment
    next = record { tick = at.tick; diasca = at.diasca + 1 }

-- ---- what comes next is later

-- the moment that comes next is within the limits and later, and once it is entered all ticks that are asked for are later still
pub record ComesNext (p : Parameters) (dues : List Due) (at next : Moment) : Type 0 where
  pub limits : IsWithinLimits p next
  pub later : IsEarlier at next
  pub agenda : RisesFrom (suc next.tick) (cond (is_spontaneous next) (without_tick next.tick dues) dues)

tick_comes : (p : Parameters) (at next : Moment) (dues : List Due) → IsWithinLimits p at → RisesFrom (suc at.tick) dues
    → next_tick p.last_tick dues ≡ Enters next → ComesNext p dues at next
tick_comes p at next [] low h e = cc
tick_comes p at next (d ∷ ds) low h e = told (nat_lt p.last_tick d.tick) refl e
  where
    first : Moment
    first = record { tick = d.tick; diasca = 0 }

    told : (b : Bool) → nat_lt p.last_tick d.tick ≡ b → cond b (Ends ending.TickLimit) (Enters first) ≡ Enters next → ComesNext p (d ∷ ds) at next
    told true t e2 = cc
    told false t e2 =
        let same : first ≡ next = cc in
        let apart : nat_eq d.tick 0 ≡ false = grind (arith, nat_tests, h.0) in
        let rises : RisesFrom d.tick (d ∷ ds) = (omega arith, h.1) in
        let comes : ComesNext p (d ∷ ds) at first = record {
          limits = record { tick = grind (arith, nat_tests, t); diasca = omega (arith, low.diasca) };
          later = (omega (arith, h.0), λ eq. absurd (omega (arith, h.0, eq)));
          agenda = rw apart (without_rises d.tick (d ∷ ds) rises);
        } in
        rw same at comes

next_comes : {A : Type 0} (w : WorldState A) (at next : Moment) (ids : List ActorId) → IsWithinLimits w.parameters at
    → RisesFrom (suc at.tick) w.agenda → next_for w at ids ≡ Enters next → ComesNext w.parameters w.agenda at next
next_comes w at next [] low h e = tick_comes w.parameters at next w.agenda low h e
next_comes w at next (id ∷ ids) low h e = told (nat_eq (at.diasca + 1) w.parameters.diasca_limit) refl e
  where
    second : Moment
    second = record { tick = at.tick; diasca = at.diasca + 1 }

    stays : (b : Bool) → RisesFrom (suc at.tick) (cond (b && false) (without_tick at.tick w.agenda) w.agenda)
    stays true = h
    stays false = h

    told : (b : Bool) → nat_eq (at.diasca + 1) w.parameters.diasca_limit ≡ b → cond b (Ends ending.DiascaLimit) (Enters second) ≡ Enters next
        → ComesNext w.parameters w.agenda at next
    told true t e2 = cc
    told false t e2 =
        let same : second ≡ next = cc in
        let comes : ComesNext w.parameters w.agenda at second = record {
          limits = record { tick = low.tick; diasca = grind (arith, nat_tests, t, low.diasca) };
          later = (omega arith, λ eq. omega arith);
          agenda = rw (later at.diasca) (stays (not (nat_eq at.tick 0)));
        } in
        rw same at comes

pub comes_next : {A : Type 0} (w : WorldState A) (at next : Moment) → IsWithinLimits w.parameters at → RisesFrom (suc at.tick) w.agenda
    → what_comes_next w at ≡ Enters next → ComesNext w.parameters w.agenda at next
comes_next w at next low h e = next_comes w at next (scheduled w (record { tick = at.tick; diasca = at.diasca + 1 })) low h e

-- ---- where what comes next leads

leads_tick : (at : Moment) (last : ℕ) (dues : List Due) → LeadsTo at (step_before (next_tick last dues)) (position_before (next_tick last dues))
leads_tick at last [] = refl
leads_tick at last (d ∷ ds) = told (nat_lt last d.tick)
  where
    first : Next
    first = Enters (record { tick = d.tick; diasca = 0 })

    told : (b : Bool) → LeadsTo at (step_before (cond b (Ends ending.TickLimit) first)) (position_before (cond b (Ends ending.TickLimit) first))
    told true = refl
    told false = (d.tick, refl)

leads_for : {A : Type 0} (w : WorldState A) (at : Moment) (ids : List ActorId)
    → LeadsTo at (step_before (next_for w at ids)) (position_before (next_for w at ids))
leads_for w at [] = leads_tick at w.parameters.last_tick w.agenda
leads_for w at (id ∷ ids) = told (nat_eq (at.diasca + 1) w.parameters.diasca_limit)
  where
    second : Next
    second = Enters (record { tick = at.tick; diasca = at.diasca + 1 })

    told : (b : Bool) → LeadsTo at (step_before (cond b (Ends ending.DiascaLimit) second)) (position_before (cond b (Ends ending.DiascaLimit) second))
    told true = refl
    told false = rw (later at.diasca) refl

pub leads_next : {A : Type 0} (w : WorldState A) (at now : Moment) (next : Next) → next ≡ what_comes_next w now → now ≡ at
    → LeadsTo at (step_before next) (position_before next)
leads_next {A} w at now next comes same =
    subst (λ (n : Next). LeadsTo at (step_before n) (position_before n)) (sym comes)
    (subst (λ (t : Moment). LeadsTo t (step_before (what_comes_next w now)) (position_before (what_comes_next w now))) same
    (leads_for w now (scheduled w (record { tick = now.tick; diasca = now.diasca + 1 }))))
