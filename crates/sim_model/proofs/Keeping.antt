-- Each world that a run comes to is whole.
use Rattle.std.proofs.Common.{◌≡◌, ℕ, zero, suc, ◌+◌, ◌-◌, ◌<◌, ◌≤◌, Bool, true, false, not, cond, nat_eq, List, [], ◌∷◌, ◌++◌, length, map}
use Rattle.std.proofs.Common.{slice_get, Option, Some, None, arith, append_assoc, length-append, refl, ap, ◌∙◌, subst}
use Rattle.std.specs.BTreeSet.{insert_key}
use Rattle.std.specs.List.{All, AllPairs, AllZip, filter, flat_map, fold}
use Rattle.std.proofs.lemmas.Bool.Decides.{nat_tests}
use Rattle.std.proofs.lemmas.List.{map-append, length-map}
use Rattle.std.proofs.lemmas.List.Elements.{All-nil, All-cons, All-head, All-tail, All-weaker, All-append, All-filter, All-map, filter_passes}
use Rattle.std.proofs.lemmas.List.Kept.{AllPairs-cons, AllPairs-filter}
use Rattle.std.proofs.lemmas.Map.Views.{All-insert_key}
use Rattle.sim_base.specs.declared.ids.ActorId.{ActorId}
use Rattle.sim_base.specs.declared.moment.Moment.{Moment}
use Rattle.sim_base.specs.declared.moment.Row.{Row}
use Rattle.actor_trait.specs.Meaning.{IsLawful, Meaning}
use Rattle.actor_trait.specs.declared.letter.Letter.{Letter}
use Rattle.agenda.specs.Dues.{IsBelow, Rises, add_due, comes_before, due_at, without_tick}
use Rattle.sim_model.specs.Births.{births_from, births_of_moment, member_born}
use Rattle.sim_model.specs.Cast.{members_from}
use Rattle.sim_model.specs.Moment.{actor_cmp, agenda_after, ask, ask_of, called, close, enter, fault_of_moment, is_alive, is_among}
use Rattle.sim_model.specs.Moment.{is_opening, is_spontaneous, letters_of, living_from, next_id, put_state, reports, retired, rows_of}
use Rattle.sim_model.specs.Moment.{scheduled, state_of, states_after, what_comes_next}
use Rattle.sim_model.specs.Run.{follow, go_on, judge, opening_world, opening, run_after, run_from, step}
use Rattle.sim_model.specs.SetupParts.{SetupParts}
use Rattle.sim_model.specs.Setups.{Ascend, IsSetup, parameters_of}
use Rattle.sim_model.specs.Whole.{AreLiving, AreParameters, Fits, IsAgendaOf, IsCastOf, IsWhole, IsWholeAfter, IsWholeAt, Numbered}
use Rattle.agenda.specs.declared.due.Due.{Due}
use Rattle.sim_model.specs.declared.births.Newborn.{Newborn}
use Rattle.sim_model.specs.declared.cast.Member.{Member}
use Rattle.sim_model.specs.declared.next.Next.{Next}
use Rattle.sim_model.specs.declared.next.Next.TheVariants.{Enters, Ends}
use Rattle.sim_model.specs.declared.parameters.Parameters.{Parameters}
use Rattle.sim_model.specs.declared.report.Fault.{Fault}
use Rattle.sim_model.specs.declared.report.Report.{Report}
use Rattle.sim_model.specs.declared.stage.Stage.{Stage}
use Rattle.sim_model.specs.declared.stage.Stage.TheVariants.{Going, Over}
use Rattle.sim_model.specs.declared.stage.Underway.{Underway}
use Rattle.sim_model.specs.declared.setup.Start.{Start}
use Rattle.sim_model.specs.declared.world.WorldState.{WorldState}
use Rattle.sim_model.proofs.Acting.{AreReports, Differ, FitsReport, are_reports, fits_puts, ids_reported, letters_distinct, zip_get}
use Rattle.sim_model.proofs.Ascending.{ascend_insert, pairs_map, pairs_nil}
use Rattle.agenda.proofs.Order.{rises_add, rises_filter}
use Rattle.sim_model.proofs.Forward.{closed_count, put_states-length}
use Rattle.sim_model.proofs.Numbers.{births_from-length}
use Rattle.sim_model.proofs.Standing.{all_living, alive_append, alive_next, no_living, puts_keep, stands}

-- ---- who is scheduled

living_insert : {A : Type 0} (states : List (Option A)) (ids : List ActorId) (id : ActorId) → is_alive states id ≡ true
    → AreLiving states ids → AreLiving states (insert_key actor_cmp ids id)
living_insert states ids id lives h = record {
  ascend = ascend_insert id ids h.ascend;
  live = All-insert_key actor_cmp id
      (λ id. is_alive states id ≡ true) ids h.live lives;
}

living_ids : {A : Type 0} (states : List (Option A)) (more ids : List ActorId) → All (λ id. is_alive states id ≡ true) more → AreLiving states ids
    → AreLiving states (fold (λ done id. insert_key actor_cmp done id) ids more)
living_ids states [] ids live h = h
living_ids states (id ∷ more) ids live h =
    living_ids states more (insert_key actor_cmp ids id) (All-tail (λ id. is_alive states id ≡ true) id more live)
    (living_insert states ids id (All-head (λ id. is_alive states id ≡ true) id more live) h)

-- those of one tick ascend
due_below : (tick : ℕ) (d : Due) (ds : List Due) → d.tick ≡ tick → IsBelow d ds
    → All (λ x. d.actor.0 < x.actor.0) (filter (λ x. nat_eq x.tick tick) ds)
due_below tick d [] e h = All-nil (λ x. d.actor.0 < x.actor.0)
due_below tick d (x ∷ xs) e h = told (nat_eq x.tick tick) refl (due_below tick d xs e h.1) where
  told : (b : Bool) → nat_eq x.tick tick ≡ b → All (λ x. d.actor.0 < x.actor.0) (filter (λ x. nat_eq x.tick tick) xs)
      → All (λ x. d.actor.0 < x.actor.0) (cond b (x ∷ filter (λ x. nat_eq x.tick tick) xs) (filter (λ x. nat_eq x.tick tick) xs))
  told true t more = All-cons (λ x. d.actor.0 < x.actor.0) x (filter (λ x. nat_eq x.tick tick) xs) (grind (arith, nat_tests, t, e, h.0)) more
  told false t more = more

due_ascend : (tick : ℕ) (ds : List Due) → Rises ds → AllPairs (λ d x. d.actor.0 < x.actor.0) (filter (λ d. nat_eq d.tick tick) ds)
due_ascend tick [] h = pairs_nil (λ d x. d.actor.0 < x.actor.0)
due_ascend tick (d ∷ ds) h = told (nat_eq d.tick tick) refl (due_ascend tick ds h.1) where
  told : (b : Bool) → nat_eq d.tick tick ≡ b → AllPairs (λ d x. d.actor.0 < x.actor.0) (filter (λ d. nat_eq d.tick tick) ds)
      → AllPairs (λ d x. d.actor.0 < x.actor.0) (cond b (d ∷ filter (λ d. nat_eq d.tick tick) ds) (filter (λ d. nat_eq d.tick tick) ds))
  told true t more = AllPairs-cons (λ d x. d.actor.0 < x.actor.0) d (filter (λ d. nat_eq d.tick tick) ds)
      (due_below tick d ds (grind (arith, nat_tests, t)) h.0) more
  told false t more = more

living_due : {A : Type 0} (states : List (Option A)) (tick : ℕ) (agenda : List Due) → IsAgendaOf states agenda → AreLiving states (due_at tick agenda)
living_due {A} states tick agenda h =
    let now : List Due = filter (λ d. nat_eq d.tick tick) agenda in
    record {
      ascend = pairs_map (λ a b. a.0 < b.0) (λ d. d.actor) now (due_ascend tick agenda h.rises);
      live = All-map (λ id. is_alive states id ≡ true) (λ d. d.actor) now
          (All-filter (λ d. nat_eq d.tick tick) (λ d. is_alive states d.actor ≡ true) agenda h.live);
    }

scheduled_living : {A : Type 0} (m : Meaning A) (w : WorldState A) (at : Moment) → IsWhole m w → AreLiving w.states (scheduled w at)
scheduled_living {A} m w at h = told (is_opening at) (is_spontaneous at) where
  recipients : All (λ id. is_alive w.states id ≡ true) (map (λ l. l.to) w.letters)
  recipients = All-map (λ id. is_alive w.states id ≡ true) (λ l. l.to) w.letters h.letters.live

  told : (b c : Bool) → AreLiving w.states (cond b (living_from 1 w.states) (cond c (due_at at.tick w.agenda) (called w.newborn w.letters)))
  told true c = all_living w.states
  told false true = living_due w.states at.tick w.agenda h.agenda
  told false false =
      living_ids w.states (w.newborn ++ map (λ l. l.to) w.letters) []
      (All-append (λ id. is_alive w.states id ≡ true) w.newborn (map (λ l. l.to) w.letters) h.newborn.live recipients) (no_living w.states)

-- ---- agendas

agenda_filter : {A : Type 0} (states : List (Option A)) (p : Due → Bool) (agenda : List Due) → IsAgendaOf states agenda
    → IsAgendaOf states (filter p agenda)
agenda_filter states p agenda h = record {
  rises = rises_filter p agenda h.rises;
  live = All-filter p
      (λ d. is_alive states d.actor ≡ true) agenda h.live;
}

all_add : (P : Due → Type 0) (d : Due) (ds : List Due) → P d → All P ds → All P (add_due d ds)
all_add P d [] p h = All-cons P d [] p h
all_add P d (x ∷ xs) p h = told (comes_before d x) (comes_before x d) (all_add P d xs p (All-tail P x xs h)) where
  told : (b c : Bool) → All P (add_due d xs) → All P (cond b (d ∷ x ∷ xs) (cond c (x ∷ add_due d xs) (x ∷ xs)))
  told true c more = All-cons P d (x ∷ xs) p h
  told false true more = All-cons P x (add_due d xs) (All-head P x xs h) more
  told false false more = h

agenda_add : {A : Type 0} (states : List (Option A)) (d : Due) (agenda : List Due) → is_alive states d.actor ≡ true
    → IsAgendaOf states agenda → IsAgendaOf states (add_due d agenda)
agenda_add states d agenda lives h = record {
  rises = rises_add d agenda h.rises;
  live = all_add
      (λ d. is_alive states d.actor ≡ true) d agenda lives h.live;
}

agenda_ask : {A : Type 0} (states : List (Option A)) (id : ActorId) (ticks : List ℕ) (agenda : List Due) → is_alive states id ≡ true
    → IsAgendaOf states agenda → IsAgendaOf states (ask id agenda ticks)
agenda_ask states id [] agenda lives h = h
agenda_ask states id (t ∷ ticks) agenda lives h = agenda_ask states id ticks _ lives
    (agenda_add states (record { tick = t; actor = id }) agenda lives h)

agenda_asks : {A : Type 0} (states : List (Option A)) (rs : List (Report A)) (agenda : List Due) → All (λ r. is_alive states r.id ≡ true) rs
    → IsAgendaOf states agenda
    → IsAgendaOf states (fold ask_of agenda rs)
agenda_asks states [] agenda live h = h
agenda_asks states (r ∷ rs) agenda live h =
    agenda_asks states rs (ask_of agenda r) (All-tail (λ r. is_alive states r.id ≡ true) r rs live)
    (agenda_ask states r.id r.outcome.ticks agenda (All-head (λ r. is_alive states r.id ≡ true) r rs live) h)

not_true : (b : Bool) → not b ≡ true → b ≡ false
not_true true e = cc
not_true false e = refl

agenda_closed : {A : Type 0} (states : List (Option A)) (rs : List (Report A)) (born : List (Newborn A)) (agenda : List Due)
    → All (λ r. is_alive states r.id ≡ true) rs
    → IsAgendaOf states agenda → IsAgendaOf (states_after states rs born) (agenda_after agenda rs)
agenda_closed {A} states rs born agenda live h = record { rises = left.rises; live = alive } where
  stay : Due → Bool
  stay d = not (is_among (retired rs) d.actor)

  asked : List Due
  asked = fold ask_of agenda rs

  left : IsAgendaOf states (filter stay asked)
  left = agenda_filter states stay asked (agenda_asks states rs agenda live h)

  alive : All (λ d. is_alive (states_after states rs born) d.actor ≡ true) (filter stay asked)
  alive k d lt = alive_append (fold put_state states rs) (map (λ b. Some b.state) born) _
      (puts_keep rs states _ (left.live k d lt) (not_true _ (filter_passes stay asked k d lt)))

-- ---- numbers

numbered_append : (xs ys : List ActorId) (n k : ℕ) → Numbered n xs → k ≡ n + length xs → Numbered k ys → Numbered n (xs ++ ys)
numbered_append [] ys n k h e g = let same : k ≡ n = omega (arith, e) in subst (λ k. Numbered k ys) same g
numbered_append (x ∷ xs) ys n k h e g = (h.0, numbered_append xs ys (n + 1) k h.1 (omega (arith, e)) g)

numbered_above : (ids : List ActorId) (n : ℕ) → Numbered n ids → All (λ id. n ≤ id.0) ids
numbered_above [] n h = All-nil (λ id. n ≤ id.0)
numbered_above (id ∷ ids) n h =
    All-cons (λ id. n ≤ id.0) id ids (omega (arith, h.0))
    (All-weaker (λ id. n + 1 ≤ id.0) (λ id. n ≤ id.0) (λ id le. omega (arith, le)) ids (numbered_above ids (n + 1) h.1))

numbered_ascend : (ids : List ActorId) (n : ℕ) → Numbered n ids → Ascend ids
numbered_ascend [] n h = pairs_nil (λ a b. a.0 < b.0)
numbered_ascend (id ∷ ids) n h =
    AllPairs-cons (λ a b. a.0 < b.0) id ids
    (All-weaker (λ k. n + 1 ≤ k.0) (λ k. id.0 < k.0) (λ k le. omega (arith, le, h.0)) ids (numbered_above ids (n + 1) h.1))
    (numbered_ascend ids (n + 1) h.1)

born_numbered : {A : Type 0} (m : Meaning A) (creator : ActorId) (index id : ℕ) (states : List A)
    → Numbered id (map (λ b. b.id) (births_from m creator index id states))
born_numbered m creator index id [] = tt
born_numbered m creator index id (s ∷ ss) = (refl, born_numbered m creator (index + 1) (id + 1) ss)

births_numbered : {A : Type 0} (m : Meaning A) (rs : List (Report A)) (next : ℕ) → Numbered next (map (λ b. b.id) (births_of_moment m next rs))
births_numbered m [] next = tt
births_numbered {A} m (r ∷ rs) next =
    let first : List (Newborn A) = births_from m r.id 0 next r.outcome.births in
    let rest : List (Newborn A) = births_of_moment m (next + length r.outcome.births) rs in
    let count : length (map {A = Newborn A} (λ b. b.id) first) ≡ length r.outcome.births = length-map {A = Newborn A} first (λ b. b.id)
    ∙ births_from-length m r.id 0 next r.outcome.births in
    rw (map-append {A = Newborn A} (λ b. b.id) first rest)
    (numbered_append (map {A = Newborn A} (λ b. b.id) first) (map {A = Newborn A} (λ b. b.id) rest) next (next + length r.outcome.births)
    (born_numbered m r.id 0 next r.outcome.births) (omega (arith, count))
    (births_numbered m rs (next + length r.outcome.births)))

-- ---- the newborn

born_alive : {A : Type 0} (states : List (Option A)) (born : List (Newborn A)) (n : ℕ) → n ≡ length states + 1 → Numbered n (map (λ b. b.id) born)
    → All (λ b. is_alive (states ++ map (λ b. Some b.state) born) b.id ≡ true) born
born_alive states [] n e h = λ k d lt. absurd (omega (arith, lt))
born_alive {A} states (b ∷ born) n e h =
    let rest : List (Option A) = map (λ b. Some b.state) born in
    let longer : n + 1 ≡ length (states ++ Some b.state ∷ []) + 1 = omega (arith, e, length-append states (Some b.state ∷ [])) in
    All-cons (λ c. is_alive (states ++ Some b.state ∷ rest) c.id ≡ true) b born (alive_next states rest b.id b.state (h.0 ∙ e))
    (subst (λ all. All (λ c. is_alive all c.id ≡ true) born) (append_assoc states (Some b.state ∷ []) rest)
    (born_alive (states ++ Some b.state ∷ []) born (n + 1) longer h.1))

newborn_living : {A : Type 0} (m : Meaning A) (states : List (Option A)) (rs : List (Report A)) (next : ℕ) → next ≡ length states + 1
    → AreLiving (states_after states rs (births_of_moment m next rs)) (map (λ b. b.id) (births_of_moment m next rs))
newborn_living {A} m states rs next e =
    let born : List (Newborn A) = births_of_moment m next rs in
    let first : next ≡ length (fold put_state states rs) + 1 = omega (arith, e, put_states-length rs states) in
    let numbered : Numbered next (map {A = Newborn A} (λ b. b.id) born) = births_numbered m rs next in
    record {
      ascend = numbered_ascend (map {A = Newborn A} (λ b. b.id) born) next numbered;
      live = All-map (λ id. is_alive (states_after states rs born) id ≡ true) (λ b. b.id) born
          (born_alive (fold put_state states rs) born next first numbered);
    }

-- ---- the cast

zip_append : {X Y : Type 0} (R : X → Y → Type 0) (xs : List X) (ys : List Y) (zs : List X) (ws : List Y) → AllZip R xs ys → AllZip R zs ws
    → AllZip R (xs ++ zs) (ys ++ ws)
zip_append R [] [] zs ws h k = k
zip_append R [] (y ∷ ys) zs ws h k = absurd h
zip_append R (x ∷ xs) [] zs ws h k = absurd h
zip_append R (x ∷ xs) (y ∷ ys) zs ws h k = (h.0, zip_append R xs ys zs ws h.1 k)

zip_length : {X Y : Type 0} (R : X → Y → Type 0) (xs : List X) (ys : List Y) → AllZip R xs ys → length xs ≡ length ys
zip_length R [] [] h = refl
zip_length R [] (y ∷ ys) h = absurd h
zip_length R (x ∷ xs) [] h = absurd h
zip_length R (x ∷ xs) (y ∷ ys) h = ap (λ n. suc n) (zip_length R xs ys h.1)

born_fit : {A : Type 0} (m : Meaning A) (born : List (Newborn A)) → AllZip (Fits m) (map (member_born m) born) (map (λ b. Some b.state) born)
born_fit m [] = tt
born_fit m (b ∷ born) = (refl, born_fit m born)

member_ids : {A : Type 0} (m : Meaning A) (born : List (Newborn A)) → map (λ c. c.id) (map (member_born m) born) ≡ map (λ b. b.id) born
member_ids m [] = refl
member_ids m (b ∷ born) = ap (λ ids. b.id ∷ ids) (member_ids m born)

cast_of : {A : Type 0} (m : Meaning A) (states : List (Option A)) (cast : List Member) → Numbered 1 (map (λ c. c.id) cast)
    → AllZip (Fits m) cast states → IsCastOf m states cast
cast_of m states cast numbered fits = record { count = zip_length (Fits m) cast states fits; numbered = numbered; fits = fits }

cast_closed : {A : Type 0} (m : Meaning A) (states : List (Option A)) (cast : List Member) (rs : List (Report A)) (next : ℕ)
    → next ≡ length states + 1 → All (FitsReport m cast) rs → IsCastOf m states cast
    → IsCastOf m (states_after states rs (births_of_moment m next rs)) (cast ++ map (member_born m) (births_of_moment m next rs))
cast_closed {A} m states cast rs next e fit h =
    let born : List (Newborn A) = births_of_moment m next rs in
    let more : List Member = map (member_born m) born in
    let count : length (map {A = Member} (λ c. c.id) cast) ≡ length cast = length-map {A = Member} cast (λ c. c.id) in
    let later : Numbered next (map {A = Member} (λ c. c.id) more) = rw (member_ids m born) (births_numbered m rs next) in
    let all : Numbered 1 (map {A = Member} (λ c. c.id) cast ++ map {A = Member} (λ c. c.id) more) =
    numbered_append (map {A = Member} (λ c. c.id) cast) (map {A = Member} (λ c. c.id) more) 1 next h.numbered
    (omega (arith, e, count, h.count)) later in
    cast_of m (states_after states rs born) (cast ++ more) (rw (map-append {A = Member} (λ c. c.id) cast more) all)
    (zip_append (Fits m) cast (fold put_state states rs) more (map (λ b. Some b.state) born) (fits_puts m cast rs states h.fits fit)
    (born_fit m born))

numbered_get : (cast : List Member) (n i : ℕ) (c : Member) → Numbered n (map (λ c. c.id) cast) → slice_get cast i ≡ Some c → c.id.0 ≡ n + i
numbered_get [] n i c h e = cc
numbered_get (d ∷ cast) n zero c h e = let same : d ≡ c = cc in omega (arith, h.0, ap (λ d. d.id.0) same)
numbered_get (d ∷ cast) n (suc i) c h e = omega (arith, numbered_get cast (n + 1) i c h.1 e)

-- the entry of a living actor
pub record EntryOf {A : Type 0} (m : Meaning A) (cast : List Member) (id : ActorId) (a : A) : Type 0 where
  pub entry : Member
  pub there : slice_get cast (id.0 - 1) ≡ Some entry
  pub number : entry.id.0 ≡ id.0
  pub kind : entry.kind.name ≡ m.kind a
  pub probes : entry.kind.probes ≡ m.probes a

pub living_entry : {A : Type 0} (m : Meaning A) (states : List (Option A)) (cast : List Member) (id : ActorId) (a : A)
    → IsCastOf m states cast → state_of states id ≡ Some a → EntryOf m cast id a
living_entry {A} m states cast id a h e =
    let s = stands states id a e in
    let found = zip_get m cast states (id.0 - 1) (Some a) h.fits s.at in
    let number = numbered_get cast 1 (id.0 - 1) found.0 h.numbered found.1 in
    record { entry = found.0; there = found.1; number = omega (arith, number, s.numbered); kind = ap (λ k. k.name) found.2; probes = ap (λ k. k.probes) found.2 }

-- ---- a whole world

pub enter_whole : {A : Type 0} (m : Meaning A) (w : WorldState A) (at : Moment) → IsWhole m w → IsWhole m (enter w at)
enter_whole {A} m w at h =
    record {
      parameters = h.parameters;
      scheduled = scheduled_living m w at h;
      agenda = told
          (is_spontaneous at);
      letters = h.letters;
      newborn = h.newborn;
      cast = h.cast;
    } where
      told : (b : Bool) → IsAgendaOf w.states (cond b (without_tick at.tick w.agenda) w.agenda)
      told true = agenda_filter w.states (λ d. not (nat_eq d.tick at.tick)) w.agenda h.agenda
      told false = h.agenda

-- nobody is urgent that wasn't there before
parameters_closed : {A : Type 0} (p : Parameters) (states more : List (Option A)) → length states ≤ length more → AreParameters states p
    → length more ≤ p.max_actors → AreParameters more p
parameters_closed p states more le h fits = record {
  seed = h.seed;
  last_tick = h.last_tick;
  some_diasca = h.some_diasca;
  diasca_limit = h.diasca_limit;
  max_actors = h.max_actors;
  count = fits;
  urgent = h.urgent;
  known = All-weaker (λ id. (1 ≤ id.0) × (id.0 ≤ length states)) (λ id. (1 ≤ id.0) × (id.0 ≤ length more))
      (λ id k. (k.0, omega (arith, k.1, le))) p.urgent h.known;
}

pub close_whole : {A : Type 0} (m : Meaning A) (w : WorldState A) (rs : List (Report A)) → AreReports m w.states w.cast rs → IsWhole m w
    → length (close m w rs).states ≤ w.parameters.max_actors
    → IsWhole m (close m w rs)
close_whole {A} m w rs acted h fits =
    let born : List (Newborn A) = births_of_moment m (next_id w) rs in
    let states : List (Option A) = states_after w.states rs born in
    let letters : List Letter = letters_of rs born in
    let longer : length w.states ≤ length states =
    omega (arith, length-append (fold put_state w.states rs) (map {A = Newborn A} (λ b. Some b.state) born), put_states-length rs w.states) in
    record {
      parameters = parameters_closed w.parameters w.states states longer h.parameters fits;
      scheduled = no_living states;
      agenda = agenda_closed w.states rs born w.agenda acted.live h.agenda;
      letters = record {
        live = filter_passes (λ l. is_alive states l.to) letters;
        distinct = AllPairs-filter Differ (λ l. is_alive states l.to) letters (letters_distinct m w.states w.cast rs (next_id w) acted);
      };
      newborn = newborn_living m w.states rs (next_id w) refl;
      cast = cast_closed m w.states w.cast rs (next_id w) refl acted.fit h.cast;
    }

-- where the moment shows no fault
pub closed_whole : {A : Type 0} (m : Meaning A) → IsLawful m → (w : WorldState A) (at : Moment) → IsWhole m w
    → fault_of_moment m w at (reports m w at) ≡ None → IsWhole m (close m w (reports m w at))
closed_whole m law w at h none =
    close_whole m w (reports m w at) (are_reports m law w at h.scheduled h.cast.fits) h
    (closed_count m w.parameters.max_actors at w (reports m w at) none h.parameters.count)

-- ---- the opening

start_numbered : {A : Type 0} (m : Meaning A) (starts : List (Start A)) (n : ℕ) → Numbered n (map (λ c. c.id) (members_from m n starts))
start_numbered m [] n = tt
start_numbered m (s ∷ starts) n = (refl, start_numbered m starts (n + 1))

start_fits : {A : Type 0} (m : Meaning A) (starts : List (Start A)) (n : ℕ)
    → AllZip (Fits m) (members_from m n starts) (map (λ a. Some a.state) starts)
start_fits m [] n = tt
start_fits m (s ∷ starts) n = (refl, start_fits m starts (n + 1))

opening_parameters : {A : Type 0} (s : SetupParts A) → IsSetup s → AreParameters (map (λ a. Some a.state) s.actors) (parameters_of s)
opening_parameters {A} s setup =
    let count : length (map {A = Start A} (λ a. Some a.state) s.actors) ≡ length s.actors = length-map {A = Start A} s.actors (λ a. Some a.state) in
    record {
      seed = setup.seed;
      last_tick = setup.last_tick;
      some_diasca = setup.some_diasca;
      diasca_limit = setup.diasca_limit;
      max_actors = setup.max_actors;
      count = omega (arith, count, setup.actors);
      urgent = setup.urgent;
      known = rw count setup.known;
    }

pub opening_whole : {A : Type 0} (m : Meaning A) (s : SetupParts A) → IsSetup s → IsWhole m (opening_world m s)
opening_whole {A} m s setup =
    let states : List (Option A) = map (λ a. Some a.state) s.actors in
    record {
      parameters = opening_parameters s setup;
      scheduled = no_living states;
      agenda = record { rises = tt; live = All-nil (λ d. is_alive states d.actor ≡ true) };
      letters = record { live = All-nil (λ l. is_alive states l.to ≡ true); distinct = pairs_nil Differ };
      newborn = no_living states;
      cast = cast_of m states (members_from m 1 s.actors) (start_numbered m s.actors 1) (start_fits m s.actors 1);
    }

-- ---- the whole run

going_whole : {A : Type 0} (m : Meaning A) (u : Underway A) → IsWhole m u.world → IsWholeAt m (Going u)
going_whole m u h =
    let entered = enter_whole m u.world u.next h in
    (h, entered, ids_reported m (enter u.world u.next) u.next (scheduled u.world u.next) entered.scheduled.live)

follow_whole : {A : Type 0} (m : Meaning A) (at : Moment) (w : WorldState A) (rows : List Row) (next : Next) → IsWhole m w
    → IsWholeAt m (follow at w rows next)
follow_whole m at w rows (Enters next) h = going_whole m (record { last = Some at; next = next; world = w; rows = rows }) h
follow_whole m at w rows (Ends ending) h = h

judge_whole : {A : Type 0} (m : Meaning A) (at : Moment) (w : WorldState A) (rows : List Row) (rs : List (Report A)) (o : Option Fault) → IsWhole m w
    → (o ≡ None → IsWhole m (close m w rs)) → IsWholeAt m (judge m at w rows rs o)
judge_whole m at w rows rs (Some f) h closes = h
judge_whole m at w rows rs None h closes = follow_whole m at (close m w rs) (rows ++ flat_map (rows_of at) rs)
    (what_comes_next (close m w rs) at) (closes refl)

pub step_whole : {A : Type 0} (m : Meaning A) → IsLawful m → (u : Underway A) → IsWhole m (enter u.world u.next) → IsWholeAt m (step m u)
unfolding step
step_whole m law u h =
    let entered = enter u.world u.next in
    judge_whole m u.next entered u.rows (reports m entered u.next) (fault_of_moment m entered u.next (reports m entered u.next)) h
    (closed_whole m law entered u.next h)

pub whole_next : {A : Type 0} (m : Meaning A) → IsLawful m → (u next : Underway A) → IsWhole m u.world → step m u ≡ Going next → IsWhole m next.world
whole_next m law u next h e = (subst (λ p. IsWholeAt m p) e (step_whole m law u (enter_whole m u.world u.next h))).0

goes_whole : {A : Type 0} (m : Meaning A) → IsLawful m → (p : Stage A) → IsWholeAt m p → IsWholeAt m (go_on m p)
unfolding go_on
goes_whole m law (Going u) h = step_whole m law u h.1
goes_whole m law (Over e) h = h

pub run_whole : {A : Type 0} (m : Meaning A) → IsLawful m → (s : SetupParts A) → IsSetup s → (k : ℕ) → IsWholeAfter m s k
unfolding run_from
run_whole m law s setup zero = going_whole m (opening m s) (opening_whole m s setup)
run_whole m law s setup (suc k) = goes_whole m law (run_after m s k) (run_whole m law s setup k)
