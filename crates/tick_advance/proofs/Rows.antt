-- The rows of an event join a buffer, and those of all buffers stay in live order.
use Rattle.std.proofs.Common.{◌≡◌, ℕ, zero, suc, ◌+◌, ◌-◌, ◌<◌, ◌≤◌, Bool, true, false, not, ◌&&◌, cond, List, [], ◌∷◌, ◌++◌, length, get_or, set, map, replicate}
use Rattle.std.proofs.Common.{Result, Ok, Err, OnOk, OnErr, Option, Some, None, slice_get, take, drop, refl, sym, ap, ◌∙◌, subst, inl, inr, arith, append_assoc}
use Rattle.std.specs.List.{All, filter, flat_map}
use Rattle.std.specs.List.Sorted.{IsSortedBy}
use Rattle.std.specs.Option.{option_map_or}
use Rattle.std.proofs.lemmas.Bool.{cases_lt}
use Rattle.std.proofs.lemmas.Bool.Decides.{nat_tests}
use Rattle.std.proofs.lemmas.List.{append-nil, get_or_default}
use Rattle.std.proofs.lemmas.List.Elements.{All-append, All-cons, All-get_or, All-head, All-map, All-nil, All-replicate, All-set, All-tail, All-weaker}
use Rattle.std.proofs.lemmas.List.Elements.{All-filter, filter-append}
use Rattle.std.proofs.lemmas.Option.{get_or_from_slice_get, slice_get_within}
use Rattle.sim_base.specs.declared.ids.ActorId.{ActorId}
use Rattle.sim_base.specs.declared.moment.Moment.{Moment}
use Rattle.sim_base.specs.declared.moment.Row.{Row}
use Rattle.actor_trait.specs.declared.outcome.Sample.{Sample}
use Rattle.probes.specs.Kept.{kept_by, kept_rows}
use Rattle.probes.specs.LiveOrder.{comes_before, ends_before, is_before, row_of, same_event, IsInLiveOrder}
use Rattle.probes.proofs.Adding.{follows_last, sorted_added}
use Rattle.probes.proofs.Uniqueness.{same_order}
use Rattle.probes.proofs.Events.{not_itself, through}
use Rattle.sim_model.specs.Whole.{IsEarlier}
use Rattle.tick_advance.specs.Log.{EndsBefore, EndsBelow, HasRows, IsBelow, LogParts, kept, no_log}

-- ---- rows below an event

-- a row below an actor's event comes before each of its rows
pub below_before : (at : Moment) (id : ActorId) (r : Row) → IsBelow at id.0 r → is_before r at id ≡ true
unfolding is_before
below_before at id r h =
    elim (cases_lt r.at.tick at.tick) [
      | inl tick ↦ grind (arith, nat_tests)
      | inr same_tick ↦
          let tick : r.at.tick ≡ at.tick = omega (arith, h.moment.0) in
          let up_to : r.at.diasca ≤ at.diasca = h.moment.1 tick in
          elim (cases_lt r.at.diasca at.diasca) [
            | inl diasca ↦ grind (arith, nat_tests)
            | inr same_diasca ↦
                let diasca : r.at.diasca ≡ at.diasca = omega arith in
                let actor : r.actor.0 < id.0 = h.actor tick diasca in
                grind (arith, nat_tests)
          ]
    ]

pub below_more : (at : Moment) (n m : ℕ) (r : Row) → n ≤ m → IsBelow at n r → IsBelow at m r
below_more at n m r up h = record { moment = h.moment; actor = λ tick diasca. omega (arith, h.actor tick diasca) }

pub earlier_below : (at : Moment) (n : ℕ) (r : Row) → IsEarlier r.at at → IsBelow at n r
earlier_below at n r h = record {
  moment = (h.0, λ tick. omega (arith, h.1 tick));
  actor = λ tick diasca. absurd (omega (arith, h.1 tick));
}

pub below_earlier : (at next : Moment) (n : ℕ) (r : Row) → IsEarlier at next → IsBelow at n r → IsEarlier r.at next
below_earlier at next n r later h = (omega (arith, later.0, h.moment.0), λ tick. omega (arith, later.0, later.1, h.moment.0, h.moment.1))

pub sampled_below : (at : Moment) (id : ActorId) (s : Sample) → IsBelow at (id.0 + 1) (row_of at id s)
sampled_below at id s = record { moment = (omega arith, λ _. omega arith); actor = λ _ _. omega arith }

-- ---- buffers of which one is changed

flat_none : {X : Type 0} (f : List X → List X) (bs : List (List X)) → All (λ b. f b ≡ []) bs → flat_map f bs ≡ []
flat_none f [] none = refl
flat_none f (b ∷ bs) none =
    let first : f b ≡ [] = All-head (λ b. f b ≡ []) b bs none in
    ap (λ y. y ++ flat_map f bs) first ∙ flat_none f bs (All-tail (λ b. f b ≡ []) b bs none)

flat_alone : {X : Type 0} (f : List X → List X) (bs : List (List X)) (m : ℕ) (x : List X) → m < length bs → All (λ b. f b ≡ []) bs
    → flat_map f (set bs m x) ≡ f x
flat_alone f [] m x within none = absurd (omega (arith, within))
flat_alone f (b ∷ bs) zero x within none = rw (flat_none f bs (All-tail (λ b. f b ≡ []) b bs none)) (append-nil (f x))
flat_alone f (b ∷ bs) (suc m) x within none =
    let first : f b ≡ [] = All-head (λ b. f b ≡ []) b bs none in
    let rest = flat_alone f bs m x (omega (arith, within)) (All-tail (λ b. f b ≡ []) b bs none) in
    ap (λ y. y ++ flat_map f (set bs m x)) first ∙ rest

flat_same : {X : Type 0} (f : List X → List X) (bs : List (List X)) (m : ℕ) (x : List X) → m < length bs → f x ≡ f (get_or bs m [])
    → flat_map f (set bs m x) ≡ flat_map f bs
flat_same f [] m x within same = absurd (omega (arith, within))
flat_same f (b ∷ bs) zero x within same = ap (λ y. y ++ flat_map f bs) same
flat_same f (b ∷ bs) (suc m) x within same = ap (λ y. f b ++ y) (flat_same f bs m x (omega (arith, within)) same)

-- ---- rows of one event among the others

none_pass : (p : Row → Bool) (rs : List Row) → All (λ r. p r ≡ false) rs → filter p rs ≡ []
none_pass p [] none = refl
none_pass p (r ∷ rs) none =
    let first : p r ≡ false = All-head (λ r. p r ≡ false) r rs none in
    ap (λ b. cond b (r ∷ filter p rs) (filter p rs)) first ∙ none_pass p rs (All-tail (λ r. p r ≡ false) r rs none)

-- whether a row is of an event shows at any of its rows
alike : (row : Row) (at : Moment) (id : ActorId) (s t : Sample) → same_event row (row_of at id t) ≡ same_event row (row_of at id s)
unfolding is_before
alike row at id s t = refl

none_new : (row : Row) (at : Moment) (id : ActorId) (s : Sample) → same_event row (row_of at id s) ≡ false → (ts : List Sample)
    → filter (same_event row) (map (row_of at id) ts) ≡ []
none_new row at id s other [] = refl
none_new row at id s other (t ∷ ts) =
    let not_this : same_event row (row_of at id t) ≡ false = alike row at id s t ∙ other in
    ap (λ b. cond b (row_of at id t ∷ filter (same_event row) (map (row_of at id) ts)) (filter (same_event row) (map (row_of at id) ts))) not_this
    ∙ none_new row at id s other ts

not_both : (b c : Bool) → (not b && not c) ≡ true → b ≡ false
not_both true c e = sym e
not_both false c e = refl

-- what comes before an event is of no row of it
none_old : (row : Row) (at : Moment) (id : ActorId) (s : Sample) (r : Row) → same_event row (row_of at id s) ≡ true → is_before r at id ≡ true → same_event row r ≡ false
none_old row at id s r same before =
    let q : Row = row_of at id s in
    let not_before : comes_before row q ≡ false = not_both (comes_before row q) (comes_before q row) same in
    let earlier : comes_before r row ≡ true = through r q row before not_before in
    rw earlier (by (comes_before row r))
  where
    by : (b : Bool) → (not b && false) ≡ false
    by true = refl
    by false = refl

abbrev AllBefore : List (List Row) → Moment → ActorId → Type 0
AllBefore bs at id = All (λ b. All (λ r. is_before r at id ≡ true) b) bs

module _ (bs : List (List Row)) (m : ℕ) (at : Moment) (id : ActorId) (within : m < length bs) (before : AllBefore bs at id) where
  same_rows_of : (row : Row) (s : Sample) (ss : List Sample) (b : Bool) → same_event row (row_of at id s) ≡ b
      → flat_map (filter (same_event row)) bs ++ filter (same_event row) (map (row_of at id) ss)
      ≡ flat_map (filter (same_event row)) (set bs m (get_or bs m [] ++ map (row_of at id) ss))
  same_rows_of row s ss false other =
      let f : List Row → List Row = filter (same_event row) in
      let new : List Row = map (row_of at id) ss in
      let none : f new ≡ [] = none_new row at id s other ss in
      let kept : f (get_or bs m [] ++ new) ≡ f (get_or bs m []) = filter-append (same_event row) (get_or bs m []) new ∙ ap (λ y. f (get_or bs m []) ++ y) none ∙ append-nil (f (get_or bs m [])) in
      ap (λ y. flat_map f bs ++ y) none ∙ append-nil (flat_map f bs) ∙ sym (flat_same f bs m (get_or bs m [] ++ new) within kept)
  same_rows_of row s ss true same =
      let f : List Row → List Row = filter (same_event row) in
      let new : List Row = map (row_of at id) ss in
      let none : All (λ b. f b ≡ []) bs =
      All-weaker (λ b. All (λ r. is_before r at id ≡ true) b) (λ b. f b ≡ [])
      (λ b h. none_pass (same_event row) b (All-weaker (λ r. is_before r at id ≡ true) (λ r. same_event row r ≡ false) (λ r. none_old row at id s r same) b h)) bs before in
      let here : f (get_or bs m []) ≡ [] = All-get_or (λ b. f b ≡ []) bs m [] within none in
      let all : f (get_or bs m [] ++ new) ≡ f new = filter-append (same_event row) (get_or bs m []) new ∙ ap (λ y. y ++ f new) here in
      ap (λ y. y ++ f new) (flat_none f bs none) ∙ sym (flat_alone f bs m (get_or bs m [] ++ new) within none ∙ all)

  pub events_added : (row : Row) (ss : List Sample) → flat_map (filter (same_event row)) bs ++ filter (same_event row) (map (row_of at id) ss)
      ≡ flat_map (filter (same_event row)) (set bs m (get_or bs m [] ++ map (row_of at id) ss))
  events_added row [] =
      let f : List Row → List Row = filter (same_event row) in
      append-nil (flat_map f bs) ∙ sym (flat_same f bs m (get_or bs m [] ++ []) within (ap f (append-nil (get_or bs m []))))
  events_added row (s ∷ ss) = same_rows_of row s (s ∷ ss) (same_event row (row_of at id s)) refl

-- ---- rows in live order are those of the buffers

kept_here : (P : Row → Type 0) (p : Row → Bool) (rs : List Row) (k : ℕ) (d : Row) → k < length rs → p (get_or rs k d) ≡ true → All P (filter p rs) → P (get_or rs k d)
kept_here P p [] k d within passes all = absurd (omega (arith, within))
kept_here P p (r ∷ rs) zero d within passes all =
    let here : All P (r ∷ filter p rs) = rw passes at all in
    All-head P r (filter p rs) here
kept_here P p (r ∷ rs) (suc k) d within passes all = by (kept_here P p rs k d (omega (arith, within)) passes) (p r) refl
  where
    by : (All P (filter p rs) → P (get_or rs k d)) → (b : Bool) → p r ≡ b → P (get_or rs k d)
    by deeper true e =
        let here : All P (r ∷ filter p rs) = rw e at all in
        deeper (All-tail P r (filter p rs) here)
    by deeper false e =
        let here : All P (filter p rs) = rw e at all in
        deeper here

all_flat : (P : Row → Type 0) (p : Row → Bool) (bs : List (List Row)) → All (λ b. All P b) bs → All P (flat_map (filter p) bs)
all_flat P p [] all = All-nil P
all_flat P p (b ∷ bs) all =
    All-append P (filter p b) (flat_map (filter p) bs) (All-filter p P b (All-head (λ b. All P b) b bs all)) (all_flat P p bs (All-tail (λ b. All P b) b bs all))

same_itself : (r : Row) → same_event r r ≡ true
same_itself r = rw (not_itself r) refl

-- what holds of each row of the buffers holds of each in live order
pub live_too : (P : Row → Type 0) (bs : List (List Row)) (rows : List Row) → IsInLiveOrder bs rows → All (λ b. All P b) bs → All P rows
live_too P bs rows live all k d within =
    let r : Row = get_or rows k d in
    kept_here P (same_event r) rows k d within (same_itself r) (subst (All P) (sym (live.events r)) (all_flat P (same_event r) bs all))

ends_with : (rows : List Row) (at : Moment) (id : ActorId) → All (λ r. is_before r at id ≡ true) rows → ends_before rows at id ≡ true
ends_with rows at id all = by (slice_get rows (length rows - 1)) refl
  where
    by : (o : Option Row) → slice_get rows (length rows - 1) ≡ o → option_map_or (λ r. is_before r at id) o true ≡ true
    by None e = refl
    by (Some r) e =
        subst (λ (q : Row). is_before q at id ≡ true) (get_or_from_slice_get rows (length rows - 1) r r e)
        (all (length rows - 1) r (slice_get_within rows (length rows - 1) r e))

-- an event that comes behind all rows of the buffers joins one of them
pub live_added : (bs : List (List Row)) (m : ℕ) (at : Moment) (id : ActorId) (rows : List Row) (ss : List Sample) → m < length bs → AllBefore bs at id → IsInLiveOrder bs rows
    → IsInLiveOrder (set bs m (get_or bs m [] ++ map (row_of at id) ss)) (rows ++ map (row_of at id) ss)
live_added bs m at id rows ss within before live = record {
  sorted = sorted_added rows at id ss live.sorted (follows_last rows at id (ends_with rows at id (live_too (λ r. is_before r at id ≡ true) bs rows live before)));
  events = λ row.
      filter-append (same_event row) rows (map (row_of at id) ss)
      ∙ ap (λ y. y ++ filter (same_event row) (map (row_of at id) ss)) (live.events row)
      ∙ events_added bs m at id within before row ss;
}

-- ---- buffers are emptied

abbrev emptied : List (List Row) → List (List Row)
emptied bs = map (λ _. []) bs

pub emptied_more : (bs : List (List Row)) (i : ℕ) → i < length bs → set (emptied (take i bs) ++ drop i bs) i [] ≡ emptied (take (suc i) bs) ++ drop (suc i) bs
emptied_more [] i within = absurd (omega (arith, within))
emptied_more (b ∷ bs) zero within = refl
emptied_more (b ∷ bs) (suc i) within = ap (λ y. [] ∷ y) (emptied_more bs i (omega (arith, within)))

-- ---- all rows are merged

emptied_flat : (f : List Row → List Row) (bs : List (List Row)) → f [] ≡ [] → flat_map f (emptied bs) ≡ []
emptied_flat f [] none = refl
emptied_flat f (b ∷ bs) none = ap (λ y. y ++ flat_map f (emptied bs)) none ∙ emptied_flat f bs none

emptied_live : (bs : List (List Row)) → IsInLiveOrder (emptied bs) []
emptied_live bs = record {
  sorted = λ k d low high. absurd (omega (arith, high));
  events = λ row. sym (emptied_flat (filter (same_event row)) bs refl);
}

pub emptied_all : (P : List Row → Type 0) (bs : List (List Row)) → P [] → All P (emptied bs)
emptied_all P [] none = All-nil P
emptied_all P (b ∷ bs) none = All-cons P [] (emptied bs) none (emptied_all P bs none)

lone_order : (b rows : List Row) → IsSortedBy comes_before b → IsInLiveOrder (b ∷ []) rows → rows ≡ b
lone_order b rows sorted live = same_order (b ∷ []) rows b live (record { sorted = sorted; events = λ row. sym (append-nil (filter (same_event row) b)) })

lone_is : (bs : List (List Row)) (b : List Row) → length bs ≡ 1 → b ≡ get_or bs 0 b → bs ≡ b ∷ []
lone_is [] b one is = absurd (omega (arith, one))
lone_is (x ∷ []) b one is = ap (λ z. z ∷ []) (sym is)
lone_is (x ∷ y ∷ ys) b one is = absurd (omega (arith, one))

-- a lone buffer has all kept rows where none is merged yet
pub all_alone : (l : LogParts) (b rows : List Row) → l.merged ≡ [] → length l.buffers ≡ 1 → b ≡ get_or l.buffers 0 b → IsSortedBy comes_before b → HasRows l rows → b ≡ kept l rows
all_alone l b rows none one is sorted h =
    let pending : h.pending ≡ b = lone_order b h.pending sorted (subst (λ bs. IsInLiveOrder bs h.pending) (lone_is l.buffers b one is) h.live) in
    sym (h.all ∙ ap (λ y. y ++ h.pending) none ∙ pending)

-- behind what is merged come the rows of the buffers, as they are merged
pub all_merged : (l : LogParts) (new rows : List Row) → ((others : List Row) → IsInLiveOrder l.buffers others → others ≡ new) → HasRows l rows → l.merged ++ new ≡ kept l rows
all_merged l new rows only h = sym (h.all ∙ ap (λ y. l.merged ++ y) (only h.pending h.live))

pub has_merged : (l l' : LogParts) (rows : List Row) → l'.merged ≡ kept l rows → l'.buffers ≡ map (λ _. []) l.buffers → l'.keeps ≡ l.keeps → l'.given ≤ length l'.merged
    → HasRows l' rows
has_merged l l' rows all none keeps given = record {
  pending = [];
  all = ap (λ k. kept_rows k rows) keeps ∙ sym all ∙ sym (append-nil l'.merged);
  live = subst (λ bs. IsInLiveOrder bs []) (sym none) (emptied_live l.buffers);
  given = given;
}

pub ends_merged : (l l' : LogParts) (at : Moment) → l'.buffers ≡ map (λ _. []) l.buffers → EndsBefore l' at
ends_merged l l' at none =
    subst (All (λ b. All (λ r. IsEarlier r.at at) b)) (sym none) (emptied_all (λ b. All (λ r. IsEarlier r.at at) b) l.buffers (All-nil (λ r. IsEarlier r.at at)))

-- ---- a report is added

-- the rows that are kept are those of the samples that are kept
pub kept_of_event : (keeps : ActorId → ℕ → Bool) (at : Moment) (id : ActorId) (ss : List Sample)
    → kept_rows keeps (map (row_of at id) ss) ≡ map (row_of at id) (kept_by keeps id ss)
kept_of_event keeps at id [] = refl
kept_of_event keeps at id (s ∷ ss) =
    ap (λ y. cond (keeps id s.probe) (row_of at id s ∷ y) y) (kept_of_event keeps at id ss) ∙ by (keeps id s.probe)
  where
    by : (b : Bool) → cond b (row_of at id s ∷ map (row_of at id) (kept_by keeps id ss)) (map (row_of at id) (kept_by keeps id ss))
        ≡ map (row_of at id) (cond b (s ∷ kept_by keeps id ss) (kept_by keeps id ss))
    by true = refl
    by false = refl

-- the buffer of which an event comes behind all rows can take it
pub ends_at : (l : LogParts) (m : ℕ) (at : Moment) (id : ActorId) (b : List Row) → m < length l.buffers → b ≡ get_or l.buffers m b → EndsBelow l at id.0 → ends_before b at id ≡ true
ends_at l m at id b within is below =
    let mine : All (IsBelow at id.0) b = subst (All (IsBelow at id.0)) (sym is) (All-get_or (λ b. All (IsBelow at id.0) b) l.buffers m b within below) in
    ends_with b at id (All-weaker (IsBelow at id.0) (λ r. is_before r at id ≡ true) (below_before at id) b mine)

module _ (l l' : LogParts) (m : ℕ) (at : Moment) (id : ActorId) (old b : List Row) (ss : List Sample) (within : m < length l.buffers) (below : EndsBelow l at id.0)
    (is : old ≡ get_or l.buffers m old) (buffers : l'.buffers ≡ set l.buffers m b) where
  all_before : AllBefore l.buffers at id
  all_before =
      All-weaker (λ b. All (IsBelow at id.0) b) (λ b. All (λ r. is_before r at id ≡ true) b)
      (λ b. All-weaker (IsBelow at id.0) (λ r. is_before r at id ≡ true) (below_before at id) b) l.buffers below

  old_is : old ≡ get_or l.buffers m []
  old_is = is ∙ get_or_default l.buffers m old [] within

  kept_added : (rows : List Row) → l'.keeps ≡ l.keeps → kept l' (rows ++ map (row_of at id) ss) ≡ kept l rows ++ map (row_of at id) (kept_by l.keeps id ss)
  kept_added rows keeps =
      ap (λ k. kept_rows k (rows ++ map (row_of at id) ss)) keeps
      ∙ filter-append (λ (r : Row). l.keeps r.actor r.probe) rows (map (row_of at id) ss)
      ∙ ap (λ y. kept l rows ++ y) (kept_of_event l.keeps at id ss)

  has_added : b ≡ old ++ map (row_of at id) (kept_by l.keeps id ss) → l'.merged ≡ l.merged → l'.given ≡ l.given → l'.keeps ≡ l.keeps → (rows : List Row) → HasRows l rows
      → HasRows l' (rows ++ map (row_of at id) ss)
  has_added is_new merged given keeps rows h =
      let ks : List Sample = kept_by l.keeps id ss in
      let new : List Row = map (row_of at id) ks in
      record {
        pending = h.pending ++ new;
        all = kept_added rows keeps ∙ ap (λ y. y ++ new) h.all ∙ append_assoc l.merged h.pending new ∙ ap (λ y. y ++ (h.pending ++ new)) (sym merged);
        live =
            let put : l'.buffers ≡ set l.buffers m (get_or l.buffers m [] ++ new) = buffers ∙ ap (λ y. set l.buffers m y) (is_new ∙ ap (λ y. y ++ new) old_is) in
            subst (λ bs. IsInLiveOrder bs (h.pending ++ new)) (sym put) (live_added l.buffers m at id h.pending ks within all_before h.live);
        given = rw (given, merged) h.given;
      }

  pub rows_added : {T E : Type 0} (r : Result T E) → OnOk r (b ≡ old ++ map (row_of at id) (kept_by l.keeps id ss)) → l'.merged ≡ l.merged → l'.given ≡ l.given → l'.keeps ≡ l.keeps
      → OnOk r ((rows : List Row) → HasRows l rows → HasRows l' (rows ++ map (row_of at id) ss))
  rows_added (Ok done) new merged given keeps = has_added new merged given keeps
  rows_added (Err refused) new merged given keeps = tt

  below_put : All (IsBelow at (id.0 + 1)) b → EndsBelow l' at (id.0 + 1)
  below_put mine =
      let kept : All (λ b. All (IsBelow at (id.0 + 1)) b) l.buffers =
      All-weaker (λ b. All (IsBelow at id.0) b) (λ b. All (IsBelow at (id.0 + 1)) b)
      (λ b. All-weaker (IsBelow at id.0) (IsBelow at (id.0 + 1)) (λ r. below_more at id.0 (id.0 + 1) r (omega arith)) b) l.buffers below in
      subst (All (λ b. All (IsBelow at (id.0 + 1)) b)) (sym buffers) (All-set (λ b. All (IsBelow at (id.0 + 1)) b) l.buffers m b mine kept)

  old_below : All (IsBelow at (id.0 + 1)) old
  old_below =
      let mine : All (IsBelow at id.0) old = subst (All (IsBelow at id.0)) (sym is) (All-get_or (λ b. All (IsBelow at id.0) b) l.buffers m old within below) in
      All-weaker (IsBelow at id.0) (IsBelow at (id.0 + 1)) (λ r. below_more at id.0 (id.0 + 1) r (omega arith)) old mine

  pub below_added : {T E : Type 0} (r : Result T E) → OnOk r (b ≡ old ++ map (row_of at id) (kept_by l.keeps id ss)) → OnErr r (b ≡ old) → EndsBelow l' at (id.0 + 1)
  below_added (Ok done) new same =
      let ks : List Sample = kept_by l.keeps id ss in
      let added : All (IsBelow at (id.0 + 1)) (map (row_of at id) ks) = All-map (IsBelow at (id.0 + 1)) (row_of at id) ks (λ k d _. sampled_below at id (get_or ks k d)) in
      below_put (subst (All (IsBelow at (id.0 + 1))) (sym new) (All-append (IsBelow at (id.0 + 1)) old (map (row_of at id) ks) old_below added))
  below_added (Err refused) new same = below_put (subst (All (IsBelow at (id.0 + 1))) (sym same) old_below)

-- ---- a moment is added

pub before_below : (l : LogParts) (at : Moment) (n : ℕ) → EndsBefore l at → EndsBelow l at n
before_below l at n before =
    All-weaker (λ b. All (λ r. IsEarlier r.at at) b) (λ b. All (IsBelow at n) b) (λ b. All-weaker (λ r. IsEarlier r.at at) (IsBelow at n) (earlier_below at n) b) l.buffers before

pub below_ends : (l : LogParts) (at next : Moment) (n : ℕ) → IsEarlier at next → EndsBelow l at n → EndsBefore l next
below_ends l at next n later below =
    All-weaker (λ b. All (IsBelow at n) b) (λ b. All (λ r. IsEarlier r.at next) b)
    (λ b. All-weaker (IsBelow at n) (λ r. IsEarlier r.at next) (λ r. below_earlier at next n r later) b) l.buffers below

pub ends_later : (l : LogParts) (at next : Moment) → IsEarlier at next → EndsBefore l at → EndsBefore l next
ends_later l at next later before = below_ends l at next 0 later (before_below l at 0 before)

pub below_up : (l : LogParts) (at : Moment) (n m : ℕ) → n ≤ m → EndsBelow l at n → EndsBelow l at m
below_up l at n m up below =
    All-weaker (λ b. All (IsBelow at n) b) (λ b. All (IsBelow at m) b) (λ b. All-weaker (IsBelow at n) (IsBelow at m) (λ r. below_more at n m r up) b) l.buffers below

-- ---- no row yet

pub none_live : (managers : ℕ) → IsInLiveOrder (replicate managers []) []
none_live managers = record {
  sorted = λ k d low high. absurd (omega (arith, high));
  events = λ row. sym (flat_none (filter (same_event row)) (replicate managers []) (All-replicate (λ b. filter (same_event row) b ≡ []) managers [] refl));
}

pub no_rows : (managers : ℕ) (keeps : ActorId → ℕ → Bool) → HasRows (no_log managers keeps) []
no_rows managers keeps = record { pending = []; all = refl; live = none_live managers; given = omega arith }

pub none_ends : (managers : ℕ) (keeps : ActorId → ℕ → Bool) (at : Moment) → EndsBefore (no_log managers keeps) at
none_ends managers keeps at = All-replicate (λ b. All (λ r. IsEarlier r.at at) b) managers [] (All-nil (λ r. IsEarlier r.at at))
