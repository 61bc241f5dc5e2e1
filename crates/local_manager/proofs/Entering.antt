-- The world at a moment that is entered, from what its calls leave.
use Rattle.std.proofs.Common.{◌≡◌, ◌≢◌, ℕ, ◌+◌, ◌-◌, ◌<◌, ◌≤◌, Bool, true, false, not, ◌||◌, ◌&&◌, cond, nat_eq, nat_lt, Option, List, [], ◌∷◌, ◌++◌}
use Rattle.std.proofs.Common.{length, get_or, map, refl, sym, ap, arith, ◌∙◌, subst, if◌then◌else◌}
use Rattle.std.proofs.lemmas.Bool.Decides.{nat_tests}
use Rattle.std.proofs.lemmas.Map.Views.{All-insert_key}
use Rattle.std.proofs.lemmas.List.Elements.{All-head, All-tail, All-append, All-map}
use Rattle.std.specs.BTreeSet.{insert_key}
use Rattle.std.specs.List.{All, filter, flat_map, fold}
use Rattle.sim_base.specs.declared.ids.ActorId.{ActorId}
use Rattle.sim_base.specs.declared.moment.Moment.{Moment}
use Rattle.actor_trait.specs.InboxOrder.{Precedence, in_order, inbox_order, is_to}
use Rattle.actor_trait.specs.Meaning.{Meaning}
use Rattle.actor_trait.specs.declared.letter.Letter.{Letter}
use Rattle.inbox_order.specs.Inboxes.{inbox_of}
use Rattle.inbox_order.proofs.Grouping.{in_order-nil}
use Rattle.inbox_store.specs.Letters.{Letters, list_of}
use Rattle.sim_model.specs.Moment.{actor_cmp, agenda_at, called, enter, event_at, inbox_at, is_alive, is_among, is_opening, is_spontaneous}
use Rattle.sim_model.specs.Moment.{living_from, next_tick, precedence_at, scheduled, what_comes_next}
use Rattle.agenda.specs.Dues.{due_at, without_tick}
use Rattle.agenda.specs.declared.due.Due.{Due}
use Rattle.sim_base.specs.declared.moment.Ending.TheVariants as ending
use Rattle.sim_model.specs.Stepping.{is_occupied}
use Rattle.sim_model.specs.declared.next.Next.TheVariants.{Enters, Ends}
use Rattle.sim_model.proofs.Called.{inbox_at_first, inbox_at_later, next_nobody, next_somebody}
use Rattle.sim_model.specs.Whole.{AreLiving}
use Rattle.sim_model.specs.declared.world.WorldState.{WorldState}
use Rattle.sim_model.proofs.Keeping.{enter_whole}
use Rattle.sim_model.proofs.Merging.{once_ascends}
use Rattle.local_manager.specs.Mail.{IsAddressed, IsEmpty, IsIndexed, letters_in}
use Rattle.local_manager.specs.Views.{CanEnter, IsEntered, IsNextFor, IsSoundClosed, IsSoundEntered, IsSoundIn, IsUpright, WorldParts, sent_at, with_letters}
use Rattle.local_manager.specs.declared.opened.Span.{Span}
use Rattle.local_manager.specs.declared.phase.Phase.{Phase}
use Rattle.local_manager.specs.declared.phase.Phase.TheVariants.{Opening, Entered, Closed, Torn}
use Rattle.actor_trait.specs.Seen.{seen}
use Rattle.sim_model.proofs.Entering.{calls_at}
use Rattle.local_manager.proofs.Among.{among_called, has_some, none_some, some_filtered}
use Rattle.local_manager.proofs.Boxes.{boxed}
use Rattle.local_manager.proofs.Ordering.{ordered_twice}
use Rattle.local_manager.proofs.Placing.{alive_within}

-- who isn't called has no letter
pub none_for : (store : Letters) (newborn : List ActorId) (to : ActorId) → IsAddressed store
    → is_among (called newborn (flat_map (λ l. l) store.lists)) to ≡ false
    → list_of store to.0 ≡ []
none_for store newborn to addressed out =
    let either : (is_among newborn to || has_some (flat_map (λ l. l) store.lists) to) ≡ false =
    sym (among_called newborn (flat_map (λ l. l) store.lists) to) ∙ out in
    let none : has_some (flat_map (λ l. l) store.lists) to ≡ false = second (is_among newborn to) (has_some (flat_map (λ l. l) store.lists) to) either in
    sym (boxed store to addressed) ∙ none_some (filter (is_to to) (flat_map (λ l. l) store.lists))
    (sym (some_filtered (flat_map (λ l. l) store.lists) to) ∙ none)
  where
    second : (b c : Bool) → (b || c) ≡ false → c ≡ false
    second true c e = absurd (cc)
    second false c e = e

-- the letters once they are opened: each inbox in its order, and nothing left in the store
pub record IsOpened (p : Precedence) (before store : Letters) (opened : List Letter) : Type 0 where
  pub empty : IsEmpty store
  pub same : (to : ActorId) → inbox_order opened to p ≡ inbox_order (flat_map (λ l. l) before.lists) to p
  pub ordered : (to : ActorId) → in_order p (inbox_of opened to) ≡ inbox_of opened to

pub opened_are : (p : Precedence) (before store : Letters) (opened : List Letter) (newborn due : List ActorId) → IsAddressed before
    → due ≡ called newborn (flat_map (λ l. l) before.lists)
    → ((to : ActorId) → inbox_of opened to ≡ cond (is_among due to) (in_order p (list_of before to.0)) [])
    → ((to : ActorId) → list_of store to.0 ≡ cond (is_among due to) [] (list_of before to.0))
    → IsOpened p before store opened
opened_are p before store opened newborn due addressed known got left = record {
  empty = λ to. left to ∙ nothing to (is_among due to) refl;
  same = λ to. ap (in_order p) (got to) ∙ both to (is_among due to) refl ∙ ap (in_order p) (sym (boxed before to addressed));
  ordered = λ to. subst (λ (l : List Letter). in_order p l ≡ l) (sym (got to)) (still to (is_among due to));
} where
  absent : (to : ActorId) → is_among due to ≡ false → list_of before to.0 ≡ []
  absent to e = none_for before newborn to addressed (subst (λ (l : List ActorId). is_among l to ≡ false) known e)

  nothing : (to : ActorId) (b : Bool) → is_among due to ≡ b → cond b [] (list_of before to.0) ≡ []
  nothing to true e = refl
  nothing to false e = absent to e

  both : (to : ActorId) (b : Bool) → is_among due to ≡ b → in_order p (cond b (in_order p (list_of before to.0)) []) ≡ in_order p (list_of before to.0)
  both to true e = ordered_twice p (list_of before to.0)
  both to false e = ap (in_order p) (sym (absent to e))

  still : (to : ActorId) (b : Bool) → in_order p (cond b (in_order p (list_of before to.0)) []) ≡ cond b (in_order p (list_of before to.0)) []
  still to true = ordered_twice p (list_of before to.0)
  still to false = in_order-nil p

-- ---- those who are called live

all_put : (P : ActorId → Type 0) (more ids : List ActorId) → All P more → All P ids → All P (fold (λ done id. insert_key actor_cmp done id) ids more)
all_put P [] ids g h = h
all_put P (id ∷ more) ids g h = all_put P more (insert_key actor_cmp ids id) (All-tail P id more g) (All-insert_key actor_cmp id P ids h (All-head P id more g))

pub called_live : {A : Type 0} (states : List (Option A)) (newborn : List ActorId) (letters : List Letter) → AreLiving states newborn
    → All (λ l. is_alive states l.to ≡ true) letters → AreLiving states (called newborn letters)
called_live states newborn letters h live = record {
  ascend = once_ascends (newborn ++ map (λ l. l.to) letters);
  live = all_put (λ id. is_alive states id ≡ true) (newborn ++ map (λ l. l.to) letters) []
      (All-append (λ id. is_alive states id ≡ true) newborn (map (λ l. l.to) letters) h.live
      (All-map (λ id. is_alive states id ≡ true) (λ l. l.to) letters live))
      (λ k d lt. absurd (omega (arith, lt)));
}

-- ---- the one world

-- where it is whole and these live, it is whole with these scheduled
pub entered_upright : {A : Type 0} (m : Meaning A) (v : WorldParts A) (at : Moment) (letters : List Letter) → IsUpright m v
    → AreLiving v.one.states (scheduled v.one at)
    → IsUpright m (record v { one = with_letters (enter v.one at) letters; moment = at; phase = Entered })
entered_upright m v at letters h living =
    let bare = enter_whole m (with_letters v.one []) at h.whole in
    record {
      whole = record {
        parameters = h.whole.parameters;
        scheduled = living;
        agenda = bare.agenda;
        letters = h.whole.letters;
        newborn = h.whole.newborn;
        cast = h.whole.cast;
      };
      homes = h.homes;
    }

-- at the first diasca of a tick who is scheduled doesn't hang on letters
same_first : {A : Type 0} (w : WorldState A) (at : Moment) → at.diasca ≡ 0 → scheduled (with_letters w []) at ≡ scheduled w at
same_first {A} w at first = told (nat_eq at.tick 0) (nat_eq at.diasca 0) (grind (arith, nat_tests, first))
  where
    told : (a b : Bool) → b ≡ true
        → cond (a && b) (living_from 1 w.states) (cond (not a && b) (due_at at.tick w.agenda) (called w.newborn []))
        ≡ cond (a && b) (living_from 1 w.states) (cond (not a && b) (due_at at.tick w.agenda) (called w.newborn w.letters))
    told true true e = refl
    told false true e = refl
    told a false e = absurd (cc)

pub first_live : {A : Type 0} (m : Meaning A) (v : WorldParts A) (at : Moment) → IsUpright m v → at.diasca ≡ 0 → AreLiving v.one.states (scheduled v.one at)
first_live m v at h first =
    subst (λ (ids : List ActorId). AreLiving v.one.states ids) (same_first v.one at first) (enter_whole m (with_letters v.one []) at h.whole).scheduled

-- the parts of entering at the first diasca of all, of a later tick, and of any other
pub enters_first : {A : Type 0} (w : WorldState A) (at : Moment) → at.diasca ≡ 0 → at.tick ≡ 0
    → (scheduled w at ≡ living_from 1 w.states) × (agenda_at w at ≡ w.agenda)
enters_first w at first zero =
    let a : nat_eq at.tick 0 ≡ true = grind (arith, nat_tests, zero) in
    let b : nat_eq at.diasca 0 ≡ true = grind (arith, nat_tests, first) in
    (rw (a, b) refl, rw a refl)

pub enters_tick : {A : Type 0} (w : WorldState A) (at : Moment) → at.diasca ≡ 0 → at.tick ≢ 0
    → (scheduled w at ≡ due_at at.tick w.agenda) × (agenda_at w at ≡ without_tick at.tick w.agenda)
enters_tick w at first some =
    let a : nat_eq at.tick 0 ≡ false = grind (arith, nat_tests, some) in
    let b : nat_eq at.diasca 0 ≡ true = grind (arith, nat_tests, first) in
    (rw (a, b) refl, rw (a, b) refl)

-- ---- what is next

-- where nobody is called, the next moment is the first of a tick
pub next_called : {A : Type 0} (w : WorldState A) (now at : Moment) → what_comes_next w now ≡ Enters at → at.diasca ≡ 0 → called w.newborn w.letters ≡ []
next_called {A} w now at next first = by (called w.newborn w.letters) refl
  where
    by : (ids : List ActorId) → called w.newborn w.letters ≡ ids → called w.newborn w.letters ≡ []
    by [] e = e
    by (id ∷ ids) e =
        let occupied : is_occupied (called w.newborn w.letters) ≡ true = ap is_occupied e in
        absurd (limit (nat_eq (now.diasca + 1) w.parameters.diasca_limit) (sym (next_somebody w now occupied) ∙ next))
      where
        limit : (b : Bool) → (if b then Ends ending.DiascaLimit else Enters (record { tick = now.tick; diasca = now.diasca + 1 })) ≡ Enters at → ⊥
        limit true h = cc
        limit false h = let same : now.diasca + 1 ≡ at.diasca = cc in absurd (omega (arith, same, first))

-- a later diasca is the one after the last
pub next_later : {A : Type 0} (w : WorldState A) (now at : Moment) → what_comes_next w now ≡ Enters at → at.diasca ≢ 0
    → at ≡ record { tick = now.tick; diasca = now.diasca + 1 }
next_later {A} w now at next later = by (is_occupied (called w.newborn w.letters)) refl
  where
    after : Moment
    after = record { tick = now.tick; diasca = now.diasca + 1 }

    by : (b : Bool) → is_occupied (called w.newborn w.letters) ≡ b → at ≡ after
    by true e = limit (nat_eq (now.diasca + 1) w.parameters.diasca_limit) (sym (next_somebody w now e) ∙ next)
      where
        limit : (b : Bool) → (if b then Ends ending.DiascaLimit else Enters after) ≡ Enters at → at ≡ after
        limit true h = absurd (cc)
        limit false h = let same : after ≡ at = cc in sym same
    by false e = absurd (tick w.agenda (sym (next_nobody w now e) ∙ next))
      where
        tick : (dues : List Due) → next_tick w.parameters.last_tick dues ≡ Enters at → ⊥
        tick [] h = cc
        tick (d ∷ ds) h = past (nat_lt w.parameters.last_tick d.tick) h
          where
            past : (b : Bool) → (if b then Ends ending.TickLimit else Enters (record { tick = d.tick; diasca = 0 })) ≡ Enters at → ⊥
            past true h = cc
            past false h = let same : 0 ≡ at.diasca = cc in later (sym same)

-- ---- what holds once a moment is entered

nothing_indexed : (spans : List Span) → IsIndexed [] spans
nothing_indexed spans to some = absurd (omega (arith, some))

-- at the first diasca of a tick nobody has a letter
pub entered_plain : {A : Type 0} (m : Meaning A) (v : WorldParts A) (at : Moment) (store : Letters) (spans : List Span) → IsUpright m v → IsEmpty store
    → at.diasca ≡ 0
    → IsSoundEntered m (record v { one = with_letters (enter v.one at) []; moment = at; phase = Entered }) store [] spans
entered_plain m v at store spans h none first = record {
  upright = entered_upright m v at [] h (first_live m v at h first);
  empty = none;
  indexed = nothing_indexed spans;
  ordered = λ to. in_order-nil (precedence_at v.one.parameters at);
  first = λ e. refl;
}

nobody_called : {A : Type 0} (v : WorldParts A) (at : Moment) (store : Letters) → IsAddressed store → v.one.letters ≡ flat_map (λ l. l) store.lists
    → called v.one.newborn v.one.letters ≡ [] → IsEmpty store
nobody_called v at store addressed same none = λ to.
    none_for store v.one.newborn to addressed (subst (λ (l : List Letter). is_among (called v.one.newborn l) to ≡ false) same
    (subst (λ (ids : List ActorId). is_among ids to ≡ false) (sym none) refl))

-- before a moment at the first diasca of a tick
pub first_ready : {A : Type 0} (m : Meaning A) (v : WorldParts A) (at : Moment) (store : Letters) (opened : List Letter) (spans : List Span)
    (due creators : List ActorId)
    → v.one.letters ≡ letters_in v.phase store opened → IsSoundIn v.phase m v store opened spans due creators → CanEnter v at → at.diasca ≡ 0
    → IsUpright m v × IsEmpty store
first_ready {A} m v at store opened spans due creators letters sound can first = by v.phase refl letters sound can
  where
    by : (p : Phase) → v.phase ≡ p → v.one.letters ≡ letters_in p store opened → IsSoundIn p m v store opened spans due creators
        → IsNextFor p v.one v.moment at → IsUpright m v × IsEmpty store
    by Opening e l s n = (s.upright, s.empty)
    by Entered e l s n = absurd n
    by Closed e l s n = (s.upright, nobody_called v at store s.addressed l (next_called v.one v.moment at n first))
    by Torn e l s n = absurd n

-- before a moment at a later diasca
pub record IsReady {A : Type 0} (m : Meaning A) (v : WorldParts A) (at : Moment) (store : Letters) (due creators : List ActorId) : Type 0 where
  pub sound : IsSoundClosed m v store due creators
  pub letters : v.one.letters ≡ flat_map (λ l. l) store.lists
  pub sent : precedence_at v.one.parameters at ≡ sent_at v.one.parameters v.moment

pub later_ready : {A : Type 0} (m : Meaning A) (v : WorldParts A) (at : Moment) (store : Letters) (opened : List Letter) (spans : List Span)
    (due creators : List ActorId)
    → v.one.letters ≡ letters_in v.phase store opened → IsSoundIn v.phase m v store opened spans due creators → CanEnter v at → at.diasca ≢ 0
    → IsReady m v at store due creators
later_ready {A} m v at store opened spans due creators letters sound can later = by v.phase refl letters sound can
  where
    by : (p : Phase) → v.phase ≡ p → v.one.letters ≡ letters_in p store opened → IsSoundIn p m v store opened spans due creators
        → IsNextFor p v.one v.moment at → IsReady m v at store due creators
    by Opening e l s n = absurd (later (ap (λ (a : Moment). a.diasca) n))
    by Entered e l s n = absurd n
    by Closed e l s n =
        let next : at ≡ record { tick = v.moment.tick; diasca = v.moment.diasca + 1 } = next_later v.one v.moment at n later in
        let back : v.moment.diasca + 1 - 1 ≡ v.moment.diasca = omega arith in
        record {
          sound = s;
          letters = l;
          sent = ap (precedence_at v.one.parameters) next ∙ ap (λ (d : ℕ). sent_at v.one.parameters (record { tick = v.moment.tick; diasca = d })) back;
        }
    by Torn e l s n = absurd n

-- the moment at a later diasca is entered
pub entered_later : {A : Type 0} (m : Meaning A) (v : WorldParts A) (at : Moment) (before store : Letters) (opened : List Letter) (spans : List Span)
    (due creators : List ActorId)
    → IsReady m v at before due creators → at.diasca ≢ 0
    → ((to : ActorId) → inbox_of opened to ≡ cond (is_among due to) (in_order (sent_at v.one.parameters v.moment) (list_of before to.0)) [])
    → ((to : ActorId) → list_of store to.0 ≡ cond (is_among due to) [] (list_of before to.0)) → IsIndexed opened spans
    → IsSoundEntered m (record v { one = with_letters (enter v.one at) opened; moment = at; phase = Entered }) store opened spans
entered_later {A} m v at before store opened spans due creators ready later got left indexed =
    let diasca : nat_eq at.diasca 0 ≡ false = grind (arith, nat_tests, later) in
    let known : due ≡ called v.one.newborn (flat_map (λ l. l) before.lists) = ready.sound.called ∙ ap (called v.one.newborn) ready.letters in
    let all = opened_are (sent_at v.one.parameters v.moment) before store opened v.one.newborn due ready.sound.addressed known got left in
    let calls = calls_at v.one at diasca in
    let living : AreLiving v.one.states (scheduled v.one at) = subst (λ (ids : List ActorId). AreLiving v.one.states ids) (sym calls.scheduled)
    (called_live v.one.states v.one.newborn v.one.letters ready.sound.upright.whole.newborn ready.sound.live) in
    record {
      upright = entered_upright m v at opened ready.sound.upright living;
      empty = all.empty;
      indexed = indexed;
      ordered = subst (λ (p : Precedence). (to : ActorId) → in_order p (inbox_of opened to) ≡ inbox_of opened to) (sym ready.sent) all.ordered;
      first = λ e. absurd (later e);
    }

-- ... and each event is that of the world before
pub events_later : {A : Type 0} (m : Meaning A) (v : WorldParts A) (at : Moment) (before store : Letters) (opened : List Letter) (due creators : List ActorId)
    → IsReady m v at before due creators → at.diasca ≢ 0
    → ((to : ActorId) → inbox_of opened to ≡ cond (is_among due to) (in_order (sent_at v.one.parameters v.moment) (list_of before to.0)) [])
    → ((to : ActorId) → list_of store to.0 ≡ cond (is_among due to) [] (list_of before to.0))
    → (id : ActorId) → event_at (with_letters (enter v.one at) opened) at id ≡ event_at v.one at id
events_later {A} m v at before store opened due creators ready later got left id =
    let diasca : nat_eq at.diasca 0 ≡ false = grind (arith, nat_tests, later) in
    let known : due ≡ called v.one.newborn (flat_map (λ l. l) before.lists) = ready.sound.called ∙ ap (called v.one.newborn) ready.letters in
    let all = opened_are (sent_at v.one.parameters v.moment) before store opened v.one.newborn due ready.sound.addressed known got left in
    let same : inbox_order opened id (precedence_at v.one.parameters at) ≡ inbox_order v.one.letters id (precedence_at v.one.parameters at) =
    ap (inbox_order opened id) ready.sent ∙ all.same id ∙ ap (λ (l : List Letter). inbox_order l id (sent_at v.one.parameters v.moment)) (sym ready.letters)
    ∙ sym (ap (inbox_order v.one.letters id) ready.sent) in
    ap (λ (box : List Letter). seen (is_opening at || is_among v.one.newborn id) (is_spontaneous at) box)
    (inbox_at_later (with_letters (enter v.one at) opened) at id diasca ∙ same ∙ sym (inbox_at_later v.one at id diasca))

pub events_first : {A : Type 0} (w : WorldState A) (at : Moment) (id : ActorId) → at.diasca ≡ 0
    → event_at (with_letters (enter w at) []) at id ≡ event_at w at id
events_first w at id first =
    ap (λ (box : List Letter). seen (is_opening at || is_among w.newborn id) (is_spontaneous at) box)
    (inbox_at_first (with_letters (enter w at) []) at id first ∙ sym (inbox_at_first w at id first))

abbrev entered_with : {A : Type 0} → WorldParts A → Moment → List Letter → List Due → List ActorId → WorldParts A
entered_with v at letters dues ids = record v { one = record v.one { agenda = dues; letters = letters; scheduled = ids }; moment = at; phase = Entered }

pub tick_sound : {A : Type 0} (m : Meaning A) (v : WorldParts A) (at : Moment) (store : Letters) (spans : List Span) → IsUpright m v → IsEmpty store
    → at.diasca ≡ 0 → at.tick ≢ 0
    → IsSoundEntered m (entered_with v at [] (without_tick at.tick v.one.agenda) (due_at at.tick v.one.agenda)) store [] spans
tick_sound m v at store spans h none first some =
    let parts = enters_tick v.one at first some in
    subst (λ (ids : List ActorId). IsSoundEntered m (entered_with v at [] (without_tick at.tick v.one.agenda) ids) store [] spans) parts.0
    (subst (λ (dues : List Due). IsSoundEntered m (entered_with v at [] dues (scheduled v.one at)) store [] spans) parts.1
    (entered_plain m v at store spans h none first))

pub first_sound : {A : Type 0} (m : Meaning A) (v : WorldParts A) (at : Moment) (store : Letters) (spans : List Span) → IsUpright m v → IsEmpty store
    → at.diasca ≡ 0 → at.tick ≡ 0
    → IsSoundEntered m (entered_with v at [] v.one.agenda (living_from 1 v.one.states)) store [] spans
first_sound m v at store spans h none first zero =
    let parts = enters_first v.one at first zero in
    subst (λ (ids : List ActorId). IsSoundEntered m (entered_with v at [] v.one.agenda ids) store [] spans) parts.0
    (subst (λ (dues : List Due). IsSoundEntered m (entered_with v at [] dues (scheduled v.one at)) store [] spans) parts.1
    (entered_plain m v at store spans h none first))

pub later_sound : {A : Type 0} (m : Meaning A) (v : WorldParts A) (at : Moment) (before store : Letters) (opened : List Letter) (spans : List Span)
    (due creators : List ActorId)
    → IsReady m v at before due creators → at.diasca ≢ 0
    → ((to : ActorId) → inbox_of opened to ≡ cond (is_among due to) (in_order (sent_at v.one.parameters v.moment) (list_of before to.0)) [])
    → ((to : ActorId) → list_of store to.0 ≡ cond (is_among due to) [] (list_of before to.0)) → IsIndexed opened spans
    → IsSoundEntered m (entered_with v at opened v.one.agenda due) store opened spans
later_sound m v at before store opened spans due creators ready later got left indexed =
    let diasca : nat_eq at.diasca 0 ≡ false = grind (arith, nat_tests, later) in
    let calls = calls_at v.one at diasca in
    let known : scheduled v.one at ≡ due = calls.scheduled ∙ sym ready.sound.called in
    subst (λ (ids : List ActorId). IsSoundEntered m (entered_with v at opened v.one.agenda ids) store opened spans) known
    (subst (λ (dues : List Due). IsSoundEntered m (entered_with v at opened dues (scheduled v.one at)) store opened spans) calls.agenda
    (entered_later m v at before store opened spans due creators ready later got left indexed))

pub later_entered : {A : Type 0} (m : Meaning A) (v : WorldParts A) (at : Moment) (before store : Letters) (opened : List Letter) (due creators : List ActorId)
    → IsReady m v at before due creators → at.diasca ≢ 0
    → ((to : ActorId) → inbox_of opened to ≡ cond (is_among due to) (in_order (sent_at v.one.parameters v.moment) (list_of before to.0)) [])
    → ((to : ActorId) → list_of store to.0 ≡ cond (is_among due to) [] (list_of before to.0))
    → IsEntered v (entered_with v at opened v.one.agenda due) at
later_entered m v at before store opened due creators ready later got left =
    let diasca : nat_eq at.diasca 0 ≡ false = grind (arith, nat_tests, later) in
    let calls = calls_at v.one at diasca in
    let known : scheduled v.one at ≡ due = calls.scheduled ∙ sym ready.sound.called in
    let one : with_letters (enter v.one at) opened ≡ record v.one { agenda = v.one.agenda; letters = opened; scheduled = due } =
    rw (calls.agenda, known) refl in
    record {
      world = sym one;
      events = λ id. events_later m v at before store opened due creators ready later got left id;
      rest = refl;
    }

-- each that is called has a place for its span
pub called_fit : {A : Type 0} (states : List (Option A)) (due : List ActorId) (n : ℕ) → length states + 1 ≤ n
    → All (λ id. is_alive states id ≡ true) due → All (λ id. id.0 < n) due
called_fit states due n le live = λ k d lt. omega (arith, le, alive_within states (get_or due k d) (live k d lt))

pub due_live : {A : Type 0} (m : Meaning A) (v : WorldParts A) (at : Moment) (store : Letters) (due creators : List ActorId)
    → IsReady m v at store due creators → AreLiving v.one.states due
due_live m v at store due creators ready =
    subst (λ (ids : List ActorId). AreLiving v.one.states ids) (sym ready.sound.called)
    (called_live v.one.states v.one.newborn v.one.letters ready.sound.upright.whole.newborn ready.sound.live)

-- ---- while a moment is entered

pub sound_entered : {A : Type 0} (m : Meaning A) (v : WorldParts A) (store : Letters) (opened : List Letter) (spans : List Span) (due creators : List ActorId)
    → v.phase ≡ Entered → v.one.letters ≡ letters_in v.phase store opened → IsSoundIn v.phase m v store opened spans due creators
    → IsSoundEntered m v store opened spans × (v.one.letters ≡ opened)
sound_entered {A} m v store opened spans due creators e letters sound = by v.phase e letters sound
  where
    by : (p : Phase) → p ≡ Entered → v.one.letters ≡ letters_in p store opened → IsSoundIn p m v store opened spans due creators
        → IsSoundEntered m v store opened spans × (v.one.letters ≡ opened)
    by Opening e l s = absurd (cc)
    by Entered e l s = (s, l)
    by Closed e l s = absurd (cc)
    by Torn e l s = absurd (cc)

pub inbox_seen : {A : Type 0} (m : Meaning A) (v : WorldParts A) (store : Letters) (opened : List Letter) (spans : List Span) (id : ActorId)
    → IsSoundEntered m v store opened spans → v.one.letters ≡ opened
    → inbox_of opened id ≡ inbox_at v.one v.moment id
inbox_seen {A} m v store opened spans id sound same = by (nat_eq v.moment.diasca 0) refl
  where
    by : (b : Bool) → nat_eq v.moment.diasca 0 ≡ b → inbox_of opened id ≡ inbox_at v.one v.moment id
    by true e =
        let first : v.moment.diasca ≡ 0 = grind (arith, nat_tests, e) in
        ap (λ (l : List Letter). inbox_of l id) (sound.first first) ∙ sym (inbox_at_first v.one v.moment id first)
    by false e =
        sym (inbox_at_later v.one v.moment id e ∙ ap (λ (l : List Letter). inbox_order l id (precedence_at v.one.parameters v.moment)) same ∙ sound.ordered id)
