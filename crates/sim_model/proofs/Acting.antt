-- What comes of those that act: reports in the order of their numbers, and their letters and births.
use Rattle.std.proofs.Common.{◌≡◌, ℕ, zero, suc, ◌+◌, ◌-◌, ◌<◌, ◌≤◌, Bool, true, false, List, [], ◌∷◌, length, map, slice_get, slice_set}
use Rattle.std.proofs.Common.{cond, nat_eq, Option, Some, None, is_some, arith, refl, ap, sym, ◌∙◌, subst}
use Rattle.std.specs.List.{All, AllPairs, AllZip, cons_option, filter_map, flat_map, fold}
use Rattle.std.specs.Option.{option_map}
use Rattle.std.proofs.lemmas.List.Elements.{All-nil, All-cons, All-head, All-tail, All-weaker, All-append, All-map}
use Rattle.std.proofs.lemmas.List.Kept.{AllPairs-cons}
use Rattle.sim_base.specs.declared.ids.ActorId.{ActorId}
use Rattle.sim_base.specs.declared.moment.Moment.{Moment}
use Rattle.actor_trait.specs.InboxOrder.{AreDistinct}
use Rattle.actor_trait.specs.Meaning.{IsLawful, Meaning}
use Rattle.actor_trait.specs.Seen.{Seen}
use Rattle.actor_trait.specs.declared.context.Context.{Context}
use Rattle.actor_trait.specs.declared.letter.Letter.{Letter}
use Rattle.actor_trait.specs.declared.letter.Parcel.{Parcel}
use Rattle.sim_model.specs.Births.{birth_letter, births_from, births_of_moment, newborn}
use Rattle.sim_model.specs.Moment.{context_at, event_at, is_alive, letters_of, post, put_state, report_of, reports, sends_of, state_of}
use Rattle.sim_model.specs.Whole.{AreLiving, Fits}
use Rattle.sim_model.specs.declared.births.Newborn.{Newborn}
use Rattle.sim_model.specs.declared.cast.Member.{Member}
use Rattle.sim_model.specs.declared.report.Report.{Report}
use Rattle.sim_model.specs.declared.world.WorldState.{WorldState}
use Rattle.sim_model.proofs.Ascending.{all_found, pairs_append, pairs_found, pairs_head, pairs_map, pairs_nil, pairs_tail, pairs_weaker}
use Rattle.sim_model.proofs.Standing.{alive_numbered, stands}

-- ---- one that acts

pub record Acted {A : Type 0} (m : Meaning A) (states : List (Option A)) (k : ActorId) (r : Report A) : Type 0 where
  pub state : A
  pub stood : state_of states k ≡ Some state
  pub id : r.id ≡ k
  pub kind : m.kind r.outcome.state ≡ m.kind state
  pub probes : m.probes r.outcome.state ≡ m.probes state

pub acted : {A : Type 0} (m : Meaning A) → IsLawful m → (w : WorldState A) (at : Moment) (k : ActorId) (r : Report A)
    → report_of m w at k ≡ Some r → Acted m w.states k r
acted {A} m law w at k r e = told (state_of w.states k) refl e where
  c : Context
  c = context_at w at k

  s : Seen
  s = event_at w at k

  made : A → Report A
  made a = record { id = k; outcome = m.acts a c s }

  told : (o : Option A) → state_of w.states k ≡ o
      → option_map (λ o. record { id = k; outcome = o }) (option_map (λ a. m.acts a c s) o) ≡ Some r → Acted m w.states k r
  told None stood h = cc
  told (Some a) stood h =
      let same : made a ≡ r = cc in
      record {
        state = a;
        stood = stood;
        id = sym (ap (λ r. r.id) same);
        kind = sym (ap (λ r. m.kind r.outcome.state) same) ∙ law.keeps_kind a c s;
        probes = sym (ap (λ r. m.probes r.outcome.state) same) ∙ law.keeps_probes a c s;
      }

-- where all are alive each has a report
pub ids_reported : {A : Type 0} (m : Meaning A) (w : WorldState A) (at : Moment) (ids : List ActorId) → All (λ id. is_alive w.states id ≡ true) ids
    → map (λ r. r.id) (filter_map (report_of m w at) ids) ≡ ids
ids_reported m w at [] live = refl
ids_reported {A} m w at (k ∷ ids) live = told (state_of w.states k) (All-head (λ id. is_alive w.states id ≡ true) k ids live)
    (ids_reported m w at ids (All-tail (λ id. is_alive w.states id ≡ true) k ids live)) where
      c : Context
      c = context_at w at k

      told : (o : Option A) → is_some o ≡ true → map (λ r. r.id) (filter_map (report_of m w at) ids) ≡ ids
          → map (λ r. r.id) (cons_option (option_map (λ o. record { id = k; outcome = o }) (option_map (λ a. m.acts a c (event_at w at k)) o))
          (filter_map (report_of m w at) ids)) ≡ k ∷ ids
      told None lives more = cc
      told (Some a) lives more = ap (λ l. k ∷ l) more

-- the next state of one that acted fits its entry
abbrev pub FitsReport : {A : Type 0} → Meaning A → List Member → Report A → Type 0
FitsReport {A} m cast r = (c : Member) × (slice_get cast (r.id.0 - 1) ≡ Some c) × Fits m c (Some r.outcome.state)

pub zip_get : {A : Type 0} (m : Meaning A) (cast : List Member) (states : List (Option A)) (i : ℕ) (s : Option A)
    → AllZip (Fits m) cast states → slice_get states i ≡ Some s
    → (c : Member) × (slice_get cast i ≡ Some c) × Fits m c s
zip_get m [] [] i s h e = cc
zip_get m [] (t ∷ states) i s h e = absurd h
zip_get m (c ∷ cast) [] i s h e = absurd h
zip_get {A} m (c ∷ cast) (t ∷ states) zero s h e = let same : t ≡ s = cc in (c, refl, subst (λ s. Fits m c s) same h.0)
zip_get m (c ∷ cast) (t ∷ states) (suc i) s h e = zip_get m cast states i s h.1 e

pub record AreReports {A : Type 0} (m : Meaning A) (states : List (Option A)) (cast : List Member) (rs : List (Report A)) : Type 0 where
  pub ascend : AllPairs (λ r q. r.id.0 < q.id.0) rs
  pub live : All (λ r. is_alive states r.id ≡ true) rs
  pub fit : All (FitsReport m cast) rs

pub are_reports : {A : Type 0} (m : Meaning A) → IsLawful m → (w : WorldState A) (at : Moment) → AreLiving w.states w.scheduled
    → AllZip (Fits m) w.cast w.states
    → AreReports m w.states w.cast (reports m w at)
are_reports {A} m law w at living fits = record {
  ascend = pairs_found (report_of m w at) (λ a b. a.0 < b.0) (λ r q. r.id.0 < q.id.0)
      (λ a b r q lt e f. rw ((acted m law w at a r e).id, (acted m law w at b q f).id) lt) w.scheduled living.ascend;
  live = all_found (report_of m w at) (λ id. is_alive w.states id ≡ true) (λ r. is_alive w.states r.id ≡ true)
      (λ a r lives e. rw (acted m law w at a r e).id lives) w.scheduled living.live;
  fit = all_found (report_of m w at) (λ id. is_alive w.states id ≡ true) (FitsReport m w.cast) (λ a r lives e. fit a r e) w.scheduled living.live;
} where
  fit : (a : ActorId) (r : Report A) → report_of m w at a ≡ Some r → FitsReport m w.cast r
  fit a r e =
      let did = acted m law w at a r e in
      let entry = zip_get m w.cast w.states (a.0 - 1) (Some did.state) fits (stands w.states a did.state did.stood).at in
      (entry.0, ap (λ i. slice_get w.cast (i.0 - 1)) did.id ∙ entry.1, rw (did.kind, did.probes) entry.2)

-- ---- states and cast

fits_set : {A : Type 0} (m : Meaning A) (cast : List Member) (states : List (Option A)) (i : ℕ) (c : Member) (v : Option A)
    → AllZip (Fits m) cast states → slice_get cast i ≡ Some c → Fits m c v
    → AllZip (Fits m) cast (slice_set states i v)
fits_set m [] [] i c v h e f = cc
fits_set m [] (t ∷ states) i c v h e f = absurd h
fits_set m (d ∷ cast) [] i c v h e f = absurd h
fits_set m (d ∷ cast) (t ∷ states) zero c v h e f = let same : c ≡ d = cc in (subst (λ c. Fits m c v) same f, h.1)
fits_set m (d ∷ cast) (t ∷ states) (suc i) c v h e f = (h.0, fits_set m cast states i c v h.1 e f)

fits_put : {A : Type 0} (m : Meaning A) (cast : List Member) (states : List (Option A)) (r : Report A) → AllZip (Fits m) cast states
    → FitsReport m cast r → AllZip (Fits m) cast (put_state states r)
fits_put {A} m cast states r h f = told (nat_eq r.id.0 0) where
  next : (b : Bool) → Fits m f.0 (cond b None (Some r.outcome.state))
  next true = tt
  next false = f.2

  told : (b : Bool) → AllZip (Fits m) cast (cond b states (slice_set states (r.id.0 - 1) (cond r.outcome.retire None (Some r.outcome.state))))
  told true = h
  told false = fits_set m cast states (r.id.0 - 1) f.0 _ h f.1 (next r.outcome.retire)

pub fits_puts : {A : Type 0} (m : Meaning A) (cast : List Member) (rs : List (Report A)) (states : List (Option A))
    → AllZip (Fits m) cast states → All (FitsReport m cast) rs
    → AllZip (Fits m) cast (fold put_state states rs)
fits_puts m cast [] states h f = h
fits_puts m cast (r ∷ rs) states h f =
    fits_puts m cast rs (put_state states r) (fits_put m cast states r h (All-head (FitsReport m cast) r rs f)) (All-tail (FitsReport m cast) r rs f)

-- ---- letters

abbrev pub Differ : Letter → Letter → Type 0
Differ l k = ¬ ((l.to.0 ≡ k.to.0) × (l.from.0 ≡ k.from.0) × (l.serial ≡ k.serial))

posted_from : (from : ActorId) (serial : ℕ) (ps : List Parcel) → All (λ l. (l.from ≡ from) × (serial ≤ l.serial)) (post from serial ps)
posted_from from serial [] = All-nil (λ l. (l.from ≡ from) × (serial ≤ l.serial))
posted_from from serial (p ∷ ps) =
    All-cons (λ l. (l.from ≡ from) × (serial ≤ l.serial)) (record { to = p.to; from = from; serial = serial; payload = p.payload })
    (post from (serial + 1) ps) (refl, omega arith)
    (All-weaker (λ l. (l.from ≡ from) × (serial + 1 ≤ l.serial)) (λ l. (l.from ≡ from) × (serial ≤ l.serial))
    (λ l h. (h.0, omega (arith, h.1))) (post from (serial + 1) ps) (posted_from from (serial + 1) ps))

posted_differ : (from : ActorId) (serial : ℕ) (ps : List Parcel) → AllPairs Differ (post from serial ps)
posted_differ from serial [] = pairs_nil Differ
posted_differ from serial (p ∷ ps) =
    let first : Letter = record { to = p.to; from = from; serial = serial; payload = p.payload } in
    AllPairs-cons Differ first (post from (serial + 1) ps)
    (All-weaker (λ l. (l.from ≡ from) × (serial + 1 ≤ l.serial)) (Differ first) (λ l h d. omega (arith, h.1, d.2))
    (post from (serial + 1) ps) (posted_from from (serial + 1) ps))
    (posted_differ from (serial + 1) ps)

sends_from : {A : Type 0} (rs : List (Report A)) (n : ℕ) → All (λ r. n < r.id.0) rs → All (λ l. n < l.from.0) (flat_map sends_of rs)
sends_from [] n h = All-nil (λ l. n < l.from.0)
sends_from (r ∷ rs) n h =
    All-append (λ l. n < l.from.0) (sends_of r) (flat_map sends_of rs)
    (All-weaker (λ l. (l.from ≡ r.id) × (0 ≤ l.serial)) (λ l. n < l.from.0)
    (λ l f. omega (arith, ap (λ i. i.0) f.0, All-head (λ r. n < r.id.0) r rs h)) (sends_of r) (posted_from r.id 0 r.outcome.sends))
    (sends_from rs n (All-tail (λ r. n < r.id.0) r rs h))

sends_differ : {A : Type 0} (rs : List (Report A)) → AllPairs (λ r q. r.id.0 < q.id.0) rs → AllPairs Differ (flat_map sends_of rs)
sends_differ [] h = pairs_nil Differ
sends_differ {A} (r ∷ rs) h = pairs_append Differ (sends_of r) (flat_map sends_of rs) (posted_differ r.id 0 r.outcome.sends)
    (sends_differ rs (pairs_tail (λ r q. r.id.0 < q.id.0) r rs h)) cross where
      later : All (λ k. r.id.0 < k.from.0) (flat_map sends_of rs)
      later = sends_from rs r.id.0 (pairs_head (λ r q. r.id.0 < q.id.0) r rs h)

      cross : All (λ l. All (Differ l) (flat_map sends_of rs)) (sends_of r)
      cross =
          All-weaker (λ l. (l.from ≡ r.id) × (0 ≤ l.serial)) (λ l. All (Differ l) (flat_map sends_of rs))
          (λ l f. All-weaker (λ k. r.id.0 < k.from.0) (Differ l) (λ k lt d. omega (arith, ap (λ i. i.0) f.0, lt, d.1))
          (flat_map sends_of rs) later) (sends_of r) (posted_from r.id 0 r.outcome.sends)

-- ---- births

abbrev pub Apart : {A : Type 0} → Newborn A → Newborn A → Type 0
Apart b c = ¬ ((b.creator.0 ≡ c.creator.0) × (b.index ≡ c.index))

born_from : {A : Type 0} (m : Meaning A) (creator : ActorId) (index id : ℕ) (states : List A)
    → All (λ b. (b.creator ≡ creator) × (index ≤ b.index)) (births_from m creator index id states)
born_from m creator index id [] = All-nil (λ b. (b.creator ≡ creator) × (index ≤ b.index))
born_from {A} m creator index id (s ∷ ss) =
    All-cons (λ b. (b.creator ≡ creator) × (index ≤ b.index)) (newborn m creator index id s) (births_from m creator (index + 1) (id + 1) ss)
    (refl, omega arith)
    (All-weaker (λ b. (b.creator ≡ creator) × (index + 1 ≤ b.index)) (λ b. (b.creator ≡ creator) × (index ≤ b.index))
    (λ b h. (h.0, omega (arith, h.1))) (births_from m creator (index + 1) (id + 1) ss)
    (born_from m creator (index + 1) (id + 1) ss))

born_apart : {A : Type 0} (m : Meaning A) (creator : ActorId) (index id : ℕ) (states : List A)
    → AllPairs Apart (births_from m creator index id states)
born_apart m creator index id [] = pairs_nil Apart
born_apart {A} m creator index id (s ∷ ss) =
    AllPairs-cons Apart (newborn m creator index id s) (births_from m creator (index + 1) (id + 1) ss)
    (All-weaker (λ b. (b.creator ≡ creator) × (index + 1 ≤ b.index)) (Apart (newborn m creator index id s))
    (λ b h d. omega (arith, h.1, d.1)) (births_from m creator (index + 1) (id + 1) ss)
    (born_from m creator (index + 1) (id + 1) ss))
    (born_apart m creator (index + 1) (id + 1) ss)

births_by : {A : Type 0} (m : Meaning A) (rs : List (Report A)) (next n : ℕ) → All (λ r. n < r.id.0) rs
    → All (λ b. n < b.creator.0) (births_of_moment m next rs)
births_by m [] next n h = All-nil (λ b. n < b.creator.0)
births_by m (r ∷ rs) next n h =
    All-append (λ b. n < b.creator.0) (births_from m r.id 0 next r.outcome.births) (births_of_moment m (next + length r.outcome.births) rs)
    (All-weaker (λ b. (b.creator ≡ r.id) × (0 ≤ b.index)) (λ b. n < b.creator.0)
    (λ b f. omega (arith, ap (λ i. i.0) f.0, All-head (λ r. n < r.id.0) r rs h)) (births_from m r.id 0 next r.outcome.births)
    (born_from m r.id 0 next r.outcome.births))
    (births_by m rs (next + length r.outcome.births) n (All-tail (λ r. n < r.id.0) r rs h))

births_apart : {A : Type 0} (m : Meaning A) (rs : List (Report A)) (next : ℕ) → AllPairs (λ r q. r.id.0 < q.id.0) rs
    → AllPairs Apart (births_of_moment m next rs)
births_apart m [] next h = pairs_nil Apart
births_apart {A} m (r ∷ rs) next h = pairs_append Apart first rest (born_apart m r.id 0 next r.outcome.births)
    (births_apart m rs (next + length r.outcome.births) (pairs_tail (λ r q. r.id.0 < q.id.0) r rs h)) cross where
      first : List (Newborn A)
      first = births_from m r.id 0 next r.outcome.births

      rest : List (Newborn A)
      rest = births_of_moment m (next + length r.outcome.births) rs

      later : All (λ c. r.id.0 < c.creator.0) rest
      later = births_by m rs (next + length r.outcome.births) r.id.0 (pairs_head (λ r q. r.id.0 < q.id.0) r rs h)

      cross : All (λ b. All (Apart b) rest) first
      cross =
          All-weaker (λ b. (b.creator ≡ r.id) × (0 ≤ b.index)) (λ b. All (Apart b) rest)
          (λ b f. All-weaker (λ c. r.id.0 < c.creator.0) (Apart b) (λ c lt d. omega (arith, ap (λ i. i.0) f.0, lt, d.0)) rest later) first
          (born_from m r.id 0 next r.outcome.births)

-- ---- the letters of a moment

pub letters_distinct : {A : Type 0} (m : Meaning A) (states : List (Option A)) (cast : List Member) (rs : List (Report A)) (next : ℕ)
    → AreReports m states cast rs
    → AreDistinct (letters_of rs (births_of_moment m next rs))
letters_distinct {A} m states cast rs next h = pairs_append Differ (flat_map sends_of rs) told (sends_differ rs h.ascend) told_differ cross where
  born : List (Newborn A)
  born = births_of_moment m next rs

  told : List Letter
  told = map birth_letter born

  told_differ : AllPairs Differ told
  told_differ =
      pairs_map Differ birth_letter born
      (pairs_weaker Apart (λ b c. Differ (birth_letter b) (birth_letter c)) (λ b c apart d. apart (d.0, d.2)) born (births_apart m rs next h.ascend))

  positive : All (λ r. 0 < r.id.0) rs
  positive = All-weaker (λ r. is_alive states r.id ≡ true) (λ r. 0 < r.id.0) (λ r lives. omega (arith, alive_numbered states r.id lives)) rs h.live

  from_none : All (λ l. l.from.0 ≡ 0) told
  from_none = All-map (λ l. l.from.0 ≡ 0) birth_letter born (λ k d lt. refl)

  cross : All (λ l. All (Differ l) told) (flat_map sends_of rs)
  cross =
      All-weaker (λ l. 0 < l.from.0) (λ l. All (Differ l) told)
      (λ l lt. All-weaker (λ k. k.from.0 ≡ 0) (Differ l) (λ k none d. omega (arith, lt, none, d.1)) told from_none)
      (flat_map sends_of rs) (sends_from rs 0 positive)
